use Rattle.covering_laws.proofs.covered_needs.Arguments.{argument_met}
use Rattle.covering_laws.proofs.covered_needs.laws.argument_met.Goals as goal

pub returns : goal.returns
returns c = argument_met
