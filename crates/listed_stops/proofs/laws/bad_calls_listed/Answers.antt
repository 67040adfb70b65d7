use Rattle.listed_stops.proofs.Runs.{bad_calls_listed}
use Rattle.listed_stops.proofs.laws.bad_calls_listed.Goals as goal

pub returns : goal.returns
returns c = bad_calls_listed
