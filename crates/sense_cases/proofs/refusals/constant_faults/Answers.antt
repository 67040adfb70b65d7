use Rattle.std.proofs.Common.{refl}
use Rattle.sense_cases.proofs.Computing.{computing}
use Rattle.sense_cases.proofs.refusals.constant_faults.Goals as goal

pub returns : goal.returns
unfolding computing
returns c = record {
  not_constant = refl;
  unevaluated_form = refl;
  out_of_range = refl;
  no_enumerator = refl;
  assert_fails = refl;
}
