use Rattle.sol_model.specs.Systems.{width_of}
use Rattle.set_rows.specs.Calls.{system_of, view, IsOf}
use Rattle.round_pieces.proofs.delta_prop.Readings.{Reading}
use Rattle.round_pieces.proofs.delta_prop.read.read_row.Given as goal

abbrev pub invariant-loop-k : goal.invariant-loop-k
invariant-loop-k l = record {
  own : IsOf l.table l.seat;
  reading : Reading (width_of (system_of l.table)) l.row l.from l.k l.first l.end l.done l.words.items (view l.initial.seat) (view l.seat);
}
