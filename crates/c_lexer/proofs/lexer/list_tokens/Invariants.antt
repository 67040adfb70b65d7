use Rattle.std.proofs.Common.{◌-◌, ◌≤◌, length}
use Rattle.c_lexer.specs.Places.{IsPlace}
use Rattle.c_lexer.specs.States.{IsState, PendingWithin}
use Rattle.c_lexer.proofs.lexer.list_tokens.Given as goal

abbrev pub invariant-loop-at : goal.invariant-loop-at
invariant-loop-at l = record {
  within : l.at ≤ length l.text;
  place : IsPlace l.text l.at l.place;
  state : IsState l.text l.at l.list.items l.pending;
  few : PendingWithin l.pending l.at;
  count : length l.list.items ≤ l.at;
}

abbrev pub decreases-loop-at : goal.decreases-loop-at
decreases-loop-at l = length l.text - l.at
