use Rattle.covering_laws.proofs.covered_library.Calling.{effects_covered}
use Rattle.covering_laws.proofs.covered_library.laws.effects_covered.Goals as goal

pub returns : goal.returns
returns c = effects_covered
