use Rattle.sol_model.specs.Systems.{width_of}
use Rattle.set_rows.specs.Calls.{system_of, view, IsOf}
use Rattle.round_pieces.proofs.delta_prop.Readings.{Searching}
use Rattle.round_pieces.proofs.delta_prop.read.has_more.Given as goal

abbrev pub invariant-loop-k : goal.invariant-loop-k
invariant-loop-k l = record {
  own : IsOf l.table l.seat;
  searching : Searching (width_of (system_of l.table)) l.row l.k l.done (view l.initial.seat) (view l.seat);
}
