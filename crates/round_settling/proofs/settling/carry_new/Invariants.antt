use Rattle.std.proofs.Common.{◌≡◌, ℕ, ◌+◌, ◌<◌, ◌≤◌, take, Some, slice_get}
use Rattle.sol_model.specs.Families.{Has, members}
use Rattle.set_rows.specs.Views.{OnlyAdded, known}
use Rattle.set_rows.specs.Calls.{system_of, view, IsOf}
use Rattle.round_pieces.specs.delta_prop.Deltas.{IsSound}
use Rattle.round_pieces.specs.Work.{edge_work}
use Rattle.round_settling.proofs.settling.carry_new.Given as goal

abbrev pub invariant-loop-i : goal.invariant-loop-i
invariant-loop-i l = record {
  own : IsOf l.ground.table.now l.seat;
  more : OnlyAdded (view l.initial.seat) (view l.seat);
  sound : IsSound (view l.initial.seat) → IsSound (view l.seat);
  carried : (k a b location : ℕ) → k < l.i → slice_get l.book k ≡ Some (a, b) → Has (members l.done) a location → Has (known (view l.seat)) b location;
  ors : (view l.seat).ors + edge_work (system_of l.ground.table.now) (members l.done) (take l.first l.book) ≤ (view l.initial.seat).ors + edge_work (system_of l.ground.table.now) (members l.done) (take l.i l.book);
}
