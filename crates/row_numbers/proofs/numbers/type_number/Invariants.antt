use Rattle.std.proofs.Common.{◌≡◌, ◌<◌, length}
use Rattle.c_types.specs.Table.{type_of}
use Rattle.row_numbers.specs.Numbers.{type_number}
use Rattle.row_numbers.proofs.numbers.type_number.Given as goal

-- the element where it stands has the number of the type
abbrev pub invariant-loop-of : goal.invariant-loop-of
invariant-loop-of l = record {
  known : l.at.0 < length l.types.terms;
  same : type_number (type_of l.types l.at.0) ≡ type_number (type_of l.types l.fn.id.0);
}

abbrev pub decreases-loop-of : goal.decreases-loop-of
decreases-loop-of l = l.at.0
