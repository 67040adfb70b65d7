use Rattle.std.proofs.Common.{◌<◌, ℕ, All}
use Rattle.link_merge.specs.Parted.{lists_of, list_of}
use Rattle.link_merge.proofs.parted.are_nodes.Given as goal

abbrev pub invariant-loop-list : goal.invariant-loop-list
invariant-loop-list l = (x : ℕ) → x < l.list-index → All (λ c. c < l.count) (list_of (lists_of l.lists) x)
