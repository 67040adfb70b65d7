use Rattle.std.proofs.Common.{refl}
use Rattle.sense_cases.proofs.Computing.{computing}
use Rattle.sense_cases.proofs.cases.types.Goals as goal

pub returns : goal.returns
unfolding computing
returns c = record {
  word_types = refl;
  derived_types = refl;
  named_types = refl;
  counted_on = refl;
  enumerator_in_structure = refl;
  typedef_again = refl;
  array_of_pointers = refl;
  assembler_name = refl;
  parameters = refl;
  parameter_lengths = refl;
  length_by_parameter = refl;
  parameter_function = refl;
  function_without_list = refl;
  parenthesised = refl;
  returns_pointer = refl;
  structure_result = refl;
  empty_things = refl;
  tag_again = refl;
  outer_tag_used = refl;
  parameter_list_tag = refl;
  parameter_tag = refl;
  inner_union = refl;
  tag_of_itself = refl;
  numbered_tag = refl;
  tag_in_expression = refl;
  union_tag = refl;
  later_tag = refl;
  later_parameter = refl;
  field_members = refl;
  field_sizes = refl;
  flexible_before_nothing = refl;
  keys = refl;
  external_key = refl;
  mentions_itself = refl;
  in_brackets = refl;
}
