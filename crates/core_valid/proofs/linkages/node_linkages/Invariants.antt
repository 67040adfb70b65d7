use Rattle.std.proofs.Common.{ℕ, ◌<◌}
use Rattle.core_tree.specs.Seen.{core_of}
use Rattle.core_tree.specs.Range.{node_at}
use Rattle.core_valid.specs.Each.{NodeLinkageIn}
use Rattle.core_valid.proofs.linkages.node_linkages.Given as goal

abbrev pub invariant-loop-n : goal.invariant-loop-n
invariant-loop-n l = (k : ℕ) → k < l.n → NodeLinkageIn (core_of l.trees) (node_at (core_of l.trees) k)
