use Rattle.std.proofs.Common.{◌≡◌, ◌+◌, ◌-◌, ◌<◌, ◌≤◌, ℕ, length}
use Rattle.core_nodes.specs.kept_nodes.Marked.{marked, IsClosedAt, IsReached}
use Rattle.core_nodes.proofs.kept_nodes.marks.marks_under.Given as goal

-- the marked nodes from where it stands on have marked children
abbrev pub invariant-loop-left : goal.invariant-loop-left
invariant-loop-left l = record {
  long : l.from + length l.marks.items ≡ length l.nodes;
  most : l.left ≤ length l.marks.items;
  highest : marked l.marks.items (l.top - l.from);
  closed : (i : ℕ) → l.left ≤ i → i < length l.marks.items → IsClosedAt l.nodes l.from l.marks.items i;
  reached : (i : ℕ) → marked l.marks.items i → IsReached l.nodes l.from l.top l.marks.items i;
}

abbrev pub decreases-loop-left : goal.decreases-loop-left
decreases-loop-left l = l.left
