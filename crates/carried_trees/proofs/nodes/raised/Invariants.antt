use Rattle.std.proofs.Common.{◌≡◌, ◌+◌, ℕ, map, take}
use Rattle.carried_trees.proofs.nodes.raised.Given as goal

abbrev pub invariant-loop-child : goal.invariant-loop-child
invariant-loop-child l = l.list.items ≡ map (λ (c : ℕ). l.from + c) (take l.child-index l.children)
