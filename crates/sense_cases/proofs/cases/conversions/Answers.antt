use Rattle.std.proofs.Common.{refl}
use Rattle.sense_cases.proofs.Computing.{computing}
use Rattle.sense_cases.proofs.cases.conversions.Goals as goal

pub returns : goal.returns
unfolding computing
returns c = record {
  null_compared = refl;
  null_assigned = refl;
  function_null = refl;
  void_compared = refl;
  void_pointers = refl;
  through_void = refl;
  chosen = refl;
  choices = refl;
  casts = refl;
  number_casts = refl;
  upcasts = refl;
  array_upcast = refl;
  structure_cast_same = refl;
  implicit_conversions = refl;
  usual_conversions = refl;
  unsigned_beside_long = refl;
  long_compared = refl;
  unary_plus = refl;
  bool_arithmetic = refl;
  bit_fields = refl;
  narrow_fields = refl;
  shifts = refl;
  pointers_moved = refl;
  difference = refl;
  constants = refl;
  negative_long = refl;
  characters = refl;
  strings = refl;
  octal_string = refl;
  own_name = refl;
  own_names = refl;
}
