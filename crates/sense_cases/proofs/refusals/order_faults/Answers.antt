use Rattle.std.proofs.Common.{refl}
use Rattle.sense_cases.proofs.Computing.{computing}
use Rattle.sense_cases.proofs.refusals.order_faults.Goals as goal

pub returns : goal.returns
unfolding computing
returns c = record {
  parenthesised_operand = refl;
  first_of_two = refl;
  inner_before_outer = refl;
  value_member_assigned = refl;
  value_member_addressed = refl;
  early_size = refl;
  size_of_itself = refl;
}
