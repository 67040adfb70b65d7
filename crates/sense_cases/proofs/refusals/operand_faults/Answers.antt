use Rattle.std.proofs.Common.{refl}
use Rattle.sense_cases.proofs.Computing.{computing}
use Rattle.sense_cases.proofs.refusals.operand_faults.Goals as goal

pub returns : goal.returns
unfolding computing
returns c = record {
  argument_count = refl;
  void_pointed = refl;
  bit_field_address = refl;
  bit_field_size = refl;
  incomplete_value = refl;
  incomplete_size = refl;
  two_operators = refl;
  flexible = refl;
  array_of_value = refl;
  number_ordered = refl;
  number_equated = refl;
  pointer_negated = refl;
  structure_denied = refl;
  pointer_shifted = refl;
  pointers_added = refl;
  function_moved = refl;
  void_moved = refl;
  value_assigned = refl;
  function_assigned = refl;
  array_assigned = refl;
  value_addressed = refl;
  void_value = refl;
  void_argument = refl;
  chosen_apart = refl;
  uncalled = refl;
  member_missing = refl;
  member_of_number = refl;
  member_of_open = refl;
  two_suffix_steps = refl;
  floating_first = refl;
}
