use Rattle.covering_laws.proofs.covered_needs.Fresh.{calls_are_made}
use Rattle.covering_laws.proofs.covered_needs.laws.calls_are_made.Goals as goal

pub returns : goal.returns
returns c p more s made named follow program space = calls_are_made p more s made named follow program space
