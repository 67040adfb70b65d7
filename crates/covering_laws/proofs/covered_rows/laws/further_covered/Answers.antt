use Rattle.covering_laws.proofs.covered_rows.Further.{further_in}
use Rattle.covering_laws.proofs.covered_rows.laws.further_covered.Goals as goal

pub returns : goal.returns
returns c s n node site target function f count k a l memory v b there kind fact variadic further many first le a_is whole h =
    further_in s.program s.space s.system s.is_system s.family s.closed s.grounds b.number n node site b.at b.of_call target function b.is_target b.body there kind f count k a l variadic further fact.parameters many first le a_is whole memory v h
