use Rattle.std.proofs.Common.{refl}
use Rattle.sense_cases.proofs.Computing.{computing}
use Rattle.sense_cases.proofs.cases.scopes.Goals as goal

pub returns : goal.returns
unfolding computing
returns c = record {
  inner_tag_differs = refl;
  tag_completed_later = refl;
  inner_tag_list = refl;
  tag_by_typedef = refl;
  array_in_union = refl;
  call_by_parameter = refl;
  pointer_as_truth = refl;
  element_updated = refl;
  list_by_earlier = refl;
  element_in_static = refl;
  linked_within_static = refl;
  letter_case_again = refl;
  wide_cases = refl;
  long_cases = refl;
  length_of_sizes = refl;
  key_by_function = refl;
}
