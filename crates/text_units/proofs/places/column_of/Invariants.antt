use Rattle.std.proofs.Common.{◌≡◌, ◌+◌, ◌≤◌}
use Rattle.c_lexer.specs.Places.{column_of}
use Rattle.text_units.proofs.places.column_of.Given as goal

abbrev pub invariant-loop-number : goal.invariant-loop-number
invariant-loop-number l = record {
  column : l.column ≡ column_of l.text l.number;
  few : l.column ≤ l.number + 1;
}
