use Rattle.std.proofs.Common.{refl}
use Rattle.sense_cases.proofs.Computing.{computing}
use Rattle.sense_cases.proofs.cases.names.Goals as goal

pub returns : goal.returns
unfolding computing
returns c = record {
  internal_object = refl;
  external_object = refl;
  tentative_definition = refl;
  one_element = refl;
  internal_function = refl;
  seen_in_block = refl;
  hidden_in_block = refl;
  parameter_of_its_own_name = refl;
  composite_type = refl;
  seen_length = refl;
  unseen_length = refl;
  block_objects = refl;
  for_objects = refl;
  hidden_typedef = refl;
  hidden_enumerator = refl;
  block_function = refl;
  block_takes_over = refl;
  typedef_function = refl;
  taken_over = refl;
  static_then_extern = refl;
  static_twice = refl;
  extern_initialised = refl;
  extern_open = refl;
  uncalled_size = refl;
  outer_in_its_length = refl;
  size_in_initialiser = refl;
  itself_in_initialiser = refl;
  length_in_initialiser = refl;
  other_in_initialiser = refl;
  different_elements = refl;
  different_results = refl;
  seen_before_values = refl;
  static_before_values = refl;
  length_of_latest = refl;
  defined_without_list = refl;
  typedef_in_block = refl;
}
