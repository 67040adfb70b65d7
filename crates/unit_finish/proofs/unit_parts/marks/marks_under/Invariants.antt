use Rattle.std.proofs.Common.{◌≡◌, ◌<◌, ◌≤◌, ℕ, length, get_or}
use Rattle.core_nodes.specs.kept_nodes.Marked.{marked}
use Rattle.unit_finish.specs.unit_parts.Marked.{IsClosedAt, IsReached}
use Rattle.unit_finish.proofs.unit_parts.marks.marks_under.Given as goal

-- the marked nodes from where it stands on have marked children
abbrev pub invariant-loop-left : goal.invariant-loop-left
invariant-loop-left l = record {
  long : length l.marks.items ≡ length l.nodes;
  most : l.left ≤ length l.marks.items;
  tops : (j : ℕ) → j < length l.tops → marked l.marks.items (get_or l.tops j 0);
  closed : (i : ℕ) → l.left ≤ i → IsClosedAt l.nodes l.marks.items i;
  reached : (i : ℕ) → marked l.marks.items i → IsReached l.nodes l.tops l.marks.items i;
}

abbrev pub decreases-loop-left : goal.decreases-loop-left
decreases-loop-left l = l.left
