use Rattle.std.proofs.Common.{◌≡◌, ◌<◌, ◌-◌, ℕ, None, true, length, get_or}
use Rattle.std.specs.Prelude.{slice_get}
use Rattle.c_senses.specs.Tree.{children_of}
use Rattle.tree_reads.specs.Order.{ascends}
use Rattle.tree_reads.specs.Parents.{parent_in}
use Rattle.tree_reads.proofs.Marks.{first_child_from}
use Rattle.tree_reads.proofs.parents.families_of.Given as goal

abbrev pub invariant-loop-i : goal.invariant-loop-i
invariant-loop-i l = record {
  long : length l.parents.items ≡ length l.nodes;
  each : (k : ℕ) → k < length l.nodes → first_child_from l.nodes k (get_or l.parents.items k None) l.i (length l.nodes - l.i) ≡ parent_in l.nodes k;
  ascending : l.ordered ≡ true → (k : ℕ) → k < l.i → ascends (children_of (slice_get l.nodes k)) ≡ true;
}
