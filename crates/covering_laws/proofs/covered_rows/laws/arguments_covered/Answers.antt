use Rattle.covering_laws.proofs.covered_rows.Calls.{parameter_in}
use Rattle.covering_laws.proofs.covered_rows.laws.arguments_covered.Goals as goal

pub returns : goal.returns
returns c s n node site target function f k a l key t memory v b fact within a_is key_is key_ty ty first whole h =
    parameter_in s.program s.space s.system s.is_system s.family s.closed s.grounds b.number n node site b.at b.of_call target function b.is_target b.body f k a l key t within fact.parameters a_is key_is key_ty ty first whole memory v h
