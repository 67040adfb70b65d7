use Rattle.std.proofs.Common.{ℕ, ◌<◌}
use Rattle.core_tree.specs.Seen.{core_of}
use Rattle.core_tree.specs.Range.{entity_at}
use Rattle.core_valid.specs.Each.{EntityRightIn}
use Rattle.core_valid.proofs.valid.entities_right.Given as goal

abbrev pub invariant-loop-e : goal.invariant-loop-e
invariant-loop-e l = (k : ℕ) → k < l.e → EntityRightIn (core_of l.trees) k (entity_at (core_of l.trees) k)
