use Rattle.set_rows.specs.Calls.{view, IsOf}
use Rattle.std.proofs.Common.{◌+◌, ◌≤◌}
use Rattle.round_pieces.specs.Rounds.{HasWorked, IsSettled}
use Rattle.round_pieces.specs.Balance.{IsBooked, paid_for}
use Rattle.round_settling.specs.Extents.{AreExtents}
use Rattle.work_rounds.proofs.solving.rounds.Given as goal

abbrev pub invariant-loop-round : goal.invariant-loop-round
invariant-loop-round g l = record {
  own : IsOf l.ground.table.now l.seat;
  worked : HasWorked (view l.fn.seat) (view l.seat);
  settled : IsSettled l.ground.system.now (view l.seat) l.progress.book l.progress.done;
  booked : IsBooked l.ground.system.now l.progress.done l.progress.book l.progress.facts;
  paid : (view l.seat).ors + paid_for l.ground.system.now l.fn.progress.done l.fn.progress.book l.fn.progress.facts ≤ (view l.fn.seat).ors + paid_for l.ground.system.now l.progress.done l.progress.book l.progress.facts;
  extents : AreExtents l.progress.done l.progress.extents.items;
}
