use Rattle.std.proofs.Common.{◌<◌, ◌≤◌, ◌-◌, length}
use Rattle.std.specs.Prelude.{slice_index}
use Rattle.c_structures.specs.Before.{Covers}
use Rattle.c_structures.proofs.before.advanced.Given as goal

abbrev pub invariant-loop-cursor : goal.invariant-loop-cursor
invariant-loop-cursor l = record {
  covers : Covers l.results l.nodes l.fn.cursor → Covers l.results l.nodes l.cursor;
  below : 0 < l.cursor.done → l.cursor.done ≤ length l.nodes → slice_index l.nodes (l.cursor.done - 1) < l.below;
}

abbrev pub decreases-loop-cursor : goal.decreases-loop-cursor
decreases-loop-cursor l = length l.nodes - l.cursor.done
