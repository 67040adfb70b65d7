use Rattle.std.proofs.Common.{refl}
use Rattle.sense_cases.proofs.cases.open_arrays.Goals as goal

pub returns : goal.returns
returns c = record {
  on_from_designator = refl;
  back_to_first = refl;
  empty = refl;
  string = refl;
  string_in_braces = refl;
  replaced = refl;
  past_limit = refl;
}
