use Rattle.std.proofs.Common.{ℕ, ◌<◌}
use Rattle.core_tree.specs.Seen.{core_of}
use Rattle.core_tree.specs.Range.{IsChild}
use Rattle.core_tree.proofs.under.parent_of.Given as goal

abbrev pub invariant-loop-p : goal.invariant-loop-p
invariant-loop-p l = (q : ℕ) → q < l.p → IsChild (core_of l.trees) q l.node → ⊥
