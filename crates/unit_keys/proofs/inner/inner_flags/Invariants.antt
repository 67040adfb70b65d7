use Rattle.std.proofs.Common.{◌≡◌, ◌+◌, ℕ, List, length}
use Rattle.c_senses.specs.Sense.{Sense}
use Rattle.tree_reads.specs.Sources.{source_in}
use Rattle.tree_reads.specs.node_roles.Roles.{AreRoles}
use Rattle.unit_keys.specs.Placed.{AreInner}
use Rattle.unit_keys.proofs.inner.inner_flags.Given as goal

abbrev pub invariant-loop-left : goal.invariant-loop-left
invariant-loop-left l = record {
  all : l.left + length l.flags.items ≡ length l.syntax.tree.now.nodes.items;
  inner : (uses : List (ℕ × ℕ)) (sense : ℕ → Sense) → AreRoles (source_in l.syntax uses) l.roles → AreInner (source_in l.syntax uses) sense l.flags.items (length l.flags.items);
}

abbrev pub decreases-loop-left : goal.decreases-loop-left
decreases-loop-left l = l.left
