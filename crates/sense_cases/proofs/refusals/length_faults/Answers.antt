use Rattle.std.proofs.Common.{refl}
use Rattle.sense_cases.proofs.Computing.{computing}
use Rattle.sense_cases.proofs.refusals.length_faults.Goals as goal

pub returns : goal.returns
unfolding computing
returns c = record {
  no_constant_length = refl;
  no_length = refl;
  pointer_length = refl;
  length_divided = refl;
  large_array = refl;
  variable_inner_length = refl;
  parameter_length_zero = refl;
  static_length = refl;
  starred_length = refl;
  static_in_other_array = refl;
  size_of_void = refl;
  size_of_open = refl;
  size_of_function = refl;
  alignment_variable = refl;
  alignment_incomplete = refl;
  large_structure = refl;
}
