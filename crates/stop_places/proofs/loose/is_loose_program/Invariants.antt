use Rattle.std.proofs.Common.{◌≡◌, ℕ, ◌<◌, Some, slice_get}
use Rattle.core_tree.specs.declared.node.Node.{Node}
use Rattle.stop_places.specs.Loose.{LooseBy}
use Rattle.stop_places.specs.Sight.{solution_in}
use Rattle.stop_places.proofs.loose.is_loose_program.Given as goal

-- no node so far
abbrev pub invariant-loop-n : goal.invariant-loop-n
invariant-loop-n l =
    (k : ℕ) → k < l.n → (node : Node) → slice_get l.sight.program.now.nodes.items k ≡ Some node → LooseBy (solution_in l.sight) k node.kind node.children → ⊥
