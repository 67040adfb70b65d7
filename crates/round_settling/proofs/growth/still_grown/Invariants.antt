use Rattle.set_rows.specs.Calls.{view, IsOf}
use Rattle.round_settling.proofs.Rests.{Kept}
use Rattle.round_settling.proofs.growth.still_grown.Given as goal

abbrev pub invariant-loop-row : goal.invariant-loop-row
invariant-loop-row l = record {
  own : IsOf l.table l.seat;
  kept : Kept l.done l.row (view l.initial.seat) (view l.seat) l.left.items;
}
