use Rattle.covering_laws.proofs.covered_needs.Grounded.{grounds_grow}
use Rattle.covering_laws.proofs.covered_needs.laws.grounds_grow.Goals as goal

pub returns : goal.returns
returns c p more system made named follow g = grounds_grow p more system made named follow g
