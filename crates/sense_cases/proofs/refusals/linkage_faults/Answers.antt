use Rattle.std.proofs.Common.{refl}
use Rattle.sense_cases.proofs.Computing.{computing}
use Rattle.sense_cases.proofs.refusals.linkage_faults.Goals as goal

pub returns : goal.returns
unfolding computing
returns c = record {
  both_linkages = refl;
  internal_differs = refl;
  length_differs = refl;
  internal_again = refl;
  typedef_differs = refl;
}
