use Rattle.covering_laws.proofs.covered_rows.Calls.{result_in}
use Rattle.covering_laws.proofs.covered_rows.laws.results_covered.Goals as goal

pub returns : goal.returns
returns c s n node site target function key t memory v b fact key_ty ty may_hold h =
    result_in s.program s.space s.system s.is_system s.family s.closed s.grounds b.number n node site b.at b.of_call target function b.is_target b.body key t fact.result key_ty ty may_hold memory v h
