use Rattle.covering_laws.proofs.covered_types.Calls.{calls_fit}
use Rattle.covering_laws.proofs.covered_types.laws.calls_fit.Goals as goal

pub returns : goal.returns
returns c p rows = calls_fit p rows
