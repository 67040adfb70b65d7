use Rattle.std.proofs.Common.{refl}
use Rattle.sense_cases.proofs.Computing.{computing}
use Rattle.sense_cases.proofs.refusals.static_faults.Goals as goal

pub returns : goal.returns
unfolding computing
returns c = record {
  not_fixed = refl;
  call_in_static = refl;
  literal_in_static = refl;
  automatic_in_static = refl;
}
