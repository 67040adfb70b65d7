use Rattle.listed_stops.proofs.Mismatches.{mismatches_listed}
use Rattle.listed_stops.proofs.causes.mismatches_listed.Goals as goal

pub returns : goal.returns
returns c = mismatches_listed
