use Rattle.std.proofs.Common.{refl}
use Rattle.sense_cases.proofs.Computing.{computing}
use Rattle.sense_cases.proofs.cases.expressions.Goals as goal

pub returns : goal.returns
unfolding computing
returns c = record {
  indexed = refl;
  index_turned = refl;
  through_pointers = refl;
  members = refl;
  members_of_values = refl;
  same_named_member = refl;
  array_arrow = refl;
  functions_called = refl;
  member_calls = refl;
  calls = refl;
  assignments = refl;
  structures_assigned = refl;
  nested_assignments = refl;
  pointer_stepped = refl;
  sizes = refl;
  size_of_literal = refl;
  alignments = refl;
  logic = refl;
  either = refl;
  addresses_denied = refl;
  followed = refl;
  literals = refl;
  literal_member = refl;
  string_places = refl;
  address_of_array = refl;
}
