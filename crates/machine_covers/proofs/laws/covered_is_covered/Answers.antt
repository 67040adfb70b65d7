use Rattle.machine_covers.proofs.Covers.{covered_is_covered}
use Rattle.machine_covers.proofs.laws.covered_is_covered.Goals as goal

pub returns : goal.returns
returns c world state covered = covered_is_covered world state covered
