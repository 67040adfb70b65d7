use Rattle.std.proofs.Common.{◌<◌, ◌≤◌, ◌-◌, length}
use Rattle.std.specs.Prelude.{slice_index}
use Rattle.tree_reads.proofs.order.first_from.Given as goal

abbrev pub invariant-loop-low : goal.invariant-loop-low
invariant-loop-low l = record {
  inside : l.high ≤ length l.list;
  in_order : l.low ≤ l.high;
  below : 0 < l.low → slice_index l.list (l.low - 1) < l.bound;
  above : l.high < length l.list → l.bound ≤ slice_index l.list l.high;
}

abbrev pub decreases-loop-low : goal.decreases-loop-low
decreases-loop-low l = l.high - l.low
