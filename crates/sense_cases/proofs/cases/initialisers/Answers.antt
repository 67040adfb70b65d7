use Rattle.std.proofs.Common.{refl}
use Rattle.sense_cases.proofs.Computing.{computing}
use Rattle.sense_cases.proofs.cases.initialisers.Goals as goal

pub returns : goal.returns
unfolding computing
returns c = record {
  nested_lists = refl;
  inner_braces = refl;
  rows = refl;
  strings_in_arrays = refl;
  string_in_braces = refl;
  rows_of_strings = refl;
  empty_list = refl;
  union_initialised = refl;
  designated_unnamed = refl;
  designated_path = refl;
  unnamed_field_passed = refl;
  empty_structure_passed = refl;
  overridden = refl;
  replaced_whole = refl;
  whole_then_part = refl;
  value_in_list = refl;
  fixed_pointers = refl;
  moved_addresses = refl;
  static_pair = refl;
  file_literal = refl;
  converted_items = refl;
}
