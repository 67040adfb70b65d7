use Rattle.std.proofs.Common.{refl}
use Rattle.sense_cases.proofs.Computing.{computing}
use Rattle.sense_cases.proofs.refusals.initialiser_faults.Goals as goal

pub returns : goal.returns
unfolding computing
returns c = record {
  too_many = refl;
  too_many_seen = refl;
  braces_in_scalar = refl;
  index_past = refl;
  no_member = refl;
  later_expression = refl;
  string_too_long = refl;
  whole_array = refl;
  other_structure = refl;
  string_beside = refl;
  value_in_elided = refl;
  designated_in_scalar = refl;
  negative_index = refl;
  negative_in_largest = refl;
  incomplete_initial = refl;
  static_structure = refl;
  past_designator = refl;
  past_union = refl;
  past_flexible = refl;
  string_for_numbers = refl;
}
