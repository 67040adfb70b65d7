use Rattle.std.proofs.Common.{refl}
use Rattle.sense_cases.proofs.Computing.{computing}
use Rattle.sense_cases.proofs.refusals.floating_faults.Goals as goal

pub returns : goal.returns
unfolding computing
returns c = record {
  floating_name = refl;
  floating_call = refl;
  floating_cast = refl;
  floating_literal = refl;
  floating_pointed = refl;
}
