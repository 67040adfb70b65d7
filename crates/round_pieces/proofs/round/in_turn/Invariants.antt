use Rattle.set_rows.specs.Views.{OnlyAdded}
use Rattle.set_rows.specs.Calls.{system_of, view, IsOf}
use Rattle.round_pieces.specs.delta_prop.Deltas.{IsSound}
use Rattle.round_pieces.specs.Turns.{HasShares}
use Rattle.round_pieces.proofs.round.in_turn.Given as goal

abbrev pub invariant-loop-worker : goal.invariant-loop-worker
invariant-loop-worker g l = record {
  own : IsOf l.round.table.now l.seat;
  more : OnlyAdded (view l.initial.seat) (view l.seat);
  sound : IsSound (view l.initial.seat) → IsSound (view l.seat);
  shares : HasShares (system_of l.round.table.now) l.round.book.now l.round.done.now l.round.todo.now l.round.workers l.first l.worker (view l.initial.seat) (view l.seat) l.turns.items;
}
