use Rattle.covering_laws.proofs.covered_outside.Given.{outside_covered}
use Rattle.covering_laws.proofs.covered_outside.laws.outside_covered.Goals as goal

pub returns : goal.returns
returns c g memory inst made o key none complete = outside_covered g memory inst made o key none complete
