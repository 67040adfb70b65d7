use Rattle.std.proofs.Common.{take}
use Rattle.sol_model.specs.Systems.{width_of}
use Rattle.set_rows.specs.Calls.{system_of, view, IsOf}
use Rattle.round_pieces.proofs.delta_prop.Carries.{Carried}
use Rattle.round_pieces.proofs.delta_prop.along.carry.Given as goal

abbrev pub invariant-loop-k : goal.invariant-loop-k
invariant-loop-k l = record {
  own : IsOf l.table l.seat;
  carried : Carried (width_of (system_of l.table)) l.to (take l.k-index l.news) (view l.initial.seat) (view l.seat);
}
