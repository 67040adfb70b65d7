use Rattle.sol_model.specs.Systems.{width_of}
use Rattle.edge_book.specs.Leaving.{targets_of}
use Rattle.set_rows.specs.Calls.{system_of, view, IsOf}
use Rattle.round_pieces.proofs.delta_prop.Going.{Going}
use Rattle.round_pieces.proofs.delta_prop.work.propagate.Given as goal

abbrev pub invariant-loop-to : goal.invariant-loop-to
invariant-loop-to l = record {
  own : IsOf l.table l.seat;
  going : Going (width_of (system_of l.table)) l.row l.to-index (targets_of l.row l.book) l.done l.read.words.items (view l.fn.seat) (view l.seat);
}
