use Rattle.std.proofs.Common.{refl}
use Rattle.sense_cases.proofs.Computing.{computing}
use Rattle.sense_cases.proofs.refusals.conversion_faults.Goals as goal

pub returns : goal.returns
unfolding computing
returns c = record {
  structure_cast = refl;
  number_to_pointer = refl;
  character_cast = refl;
  union_cast = refl;
  size_cast = refl;
  number_assigned = refl;
  number_passed = refl;
  number_returned = refl;
  number_initial = refl;
  own_token_of_parentheses = refl;
  post_of_literal = refl;
  null_of_choice = refl;
  pointer_in_integer = refl;
  function_in_void = refl;
  cast_to_array = refl;
  number_to_structure = refl;
  array_to_first = refl;
  structure_to_bool = refl;
  structure_returned = refl;
  structure_passed = refl;
  union_to_structure = refl;
  unsigned_character_cast = refl;
  pointer_to_number = refl;
  floating_pointers = refl;
  function_to_object = refl;
}
