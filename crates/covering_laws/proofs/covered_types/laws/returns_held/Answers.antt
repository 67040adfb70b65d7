use Rattle.covering_laws.proofs.covered_types.Returns.{returns_held}
use Rattle.covering_laws.proofs.covered_types.laws.returns_held.Goals as goal

pub returns : goal.returns
returns c p valid = returns_held p valid
