use Rattle.std.proofs.Common.{◌≡◌, ℕ, ◌+◌, ◌-◌, ◌*◌, ◌<◌, ◌≤◌, length, map, slice_get}
use Rattle.sol_model.specs.Systems.{width_of}
use Rattle.set_rows.specs.Views.{OnlyAdded}
use Rattle.set_rows.specs.Calls.{system_of, view, IsOf}
use Rattle.round_pieces.specs.delta_prop.Deltas.{IsSound}
use Rattle.new_members.specs.News.{words_at}
use Rattle.round_pieces.specs.Turns.{AreTurns, row_of}
use Rattle.round_pieces.proofs.pieces.serve.Given as goal

abbrev pub invariant-loop-piece : goal.invariant-loop-piece
invariant-loop-piece g l = record {
  own : IsOf l.round.table.now l.seat;
  more : OnlyAdded (view l.initial.seat) (view l.seat);
  sound : IsSound (view l.initial.seat) → IsSound (view l.seat);
  few : l.turn ≤ l.piece;
  turns : AreTurns (width_of (system_of l.round.table.now)) l.round.book.now (words_at l.round.done.now) (view l.initial.seat) l.turns.items (view l.seat);
  piece : l.piece ≡ l.worker + length l.turns.items * l.round.workers;
  rows : (i : ℕ) → i < length l.turns.items → slice_get (map row_of l.turns.items) i ≡ slice_get l.round.todo.now (l.worker + i * l.round.workers);
}

abbrev pub decreases-loop-piece : goal.decreases-loop-piece
decreases-loop-piece g l = length l.round.todo.now - l.piece
