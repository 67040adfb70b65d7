use Rattle.covering_laws.proofs.covered_rows.Calls.{return_in}
use Rattle.covering_laws.proofs.covered_rows.laws.returns_covered.Goals as goal

pub returns : goal.returns
returns c s n v f t own memory value node owner given ty may_hold h =
    return_in s.program s.space s.system s.is_system s.family s.closed s.grounds n v f t own node owner given ty may_hold memory value h
