use Rattle.std.proofs.Common.{◌≡◌, ◌+◌, ◌≤◌}
use Rattle.c_lexer.specs.Places.{line_of}
use Rattle.text_units.proofs.places.line_of.Given as goal

abbrev pub invariant-loop-number : goal.invariant-loop-number
invariant-loop-number l = record {
  line : l.line ≡ line_of l.text l.number;
  few : l.line ≤ l.number + 1;
}
