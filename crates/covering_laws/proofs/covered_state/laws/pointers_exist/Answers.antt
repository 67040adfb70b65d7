use Rattle.covering_laws.proofs.covered_state.Exists.{covered_exist}
use Rattle.covering_laws.proofs.covered_state.laws.pointers_exist.Goals as goal

pub returns : goal.returns
returns c world state covered = covered_exist world state covered
