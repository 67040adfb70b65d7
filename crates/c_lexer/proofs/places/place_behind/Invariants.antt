use Rattle.c_lexer.specs.Places.{IsPlace}
use Rattle.c_lexer.proofs.places.place_behind.Given as goal

abbrev pub invariant-loop-at : goal.invariant-loop-at
invariant-loop-at l = IsPlace l.text l.at l.place
