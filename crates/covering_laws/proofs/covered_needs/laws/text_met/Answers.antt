use Rattle.covering_laws.proofs.covered_needs.Fresh.{text_met}
use Rattle.covering_laws.proofs.covered_needs.laws.text_met.Goals as goal

pub returns : goal.returns
returns c = text_met
