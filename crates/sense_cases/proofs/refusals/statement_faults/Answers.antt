use Rattle.std.proofs.Common.{refl}
use Rattle.sense_cases.proofs.Computing.{computing}
use Rattle.sense_cases.proofs.refusals.statement_faults.Goals as goal

pub returns : goal.returns
unfolding computing
returns c = record {
  returns_value = refl;
  break_alone = refl;
  continue_in_switch = refl;
  case_alone = refl;
  case_again = refl;
  case_before = refl;
  default_again = refl;
  pointer_switched = refl;
  pointer_with_case = refl;
  pointer_with_cases = refl;
  scalar_condition = refl;
  void_condition = refl;
  case_wraps = refl;
  case_not_constant = refl;
}
