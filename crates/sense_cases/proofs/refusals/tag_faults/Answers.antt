use Rattle.std.proofs.Common.{refl}
use Rattle.sense_cases.proofs.Computing.{computing}
use Rattle.sense_cases.proofs.refusals.tag_faults.Goals as goal

pub returns : goal.returns
unfolding computing
returns c = record {
  structure_again = refl;
  other_keyword = refl;
  other_keyword_inside = refl;
  member_again = refl;
  wide_field = refl;
  wide_unnamed = refl;
  named_zero = refl;
  pointer_field = refl;
  incomplete_member = refl;
  flexible_first = refl;
  flexible_alone = refl;
  flexible_element = refl;
  union_with_flexible = refl;
  unnamed_flexible = refl;
  flexible_member_array = refl;
  member_function = refl;
  second_tag_list = refl;
}
