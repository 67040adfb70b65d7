use Rattle.covering_laws.proofs.covered_rows.Targets.{target_in}
use Rattle.covering_laws.proofs.covered_rows.laws.targets_covered.Goals as goal

pub returns : goal.returns
returns c s n node site to key l memory call ty listed first h same =
    target_in s.program s.space s.system s.is_system s.family s.closed s.grounds n node site call to ty key l listed first memory h same
