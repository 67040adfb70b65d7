use Rattle.std.proofs.Common.{refl}
use Rattle.sense_cases.proofs.Computing.{computing}
use Rattle.sense_cases.proofs.refusals.type_faults.Goals as goal

pub returns : goal.returns
unfolding computing
returns c = record {
  incomplete_object = refl;
  local_without_length = refl;
  void_object = refl;
  void_and_more = refl;
  unnamed_parameter = refl;
  void_parameter = refl;
  returns_array = refl;
  array_of_functions = refl;
  inline_definition = refl;
  outer_tag_as_union = refl;
  array_of_void = refl;
  array_of_open = refl;
  static_open = refl;
  alone_in_block = refl;
  wide_bool = refl;
  parameters_differ = refl;
  long_shifted_out = refl;
  remainder_by_zero = refl;
}
