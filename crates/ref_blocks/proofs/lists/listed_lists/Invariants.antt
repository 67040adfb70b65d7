-- The lists of the nodes so far.
use Rattle.std.proofs.Common.{◌≡◌, map}
use Rattle.std.specs.List.{range_with_len}
use Rattle.core_tree.specs.Seen.{core_of}
use Rattle.ref_blocks.specs.declared.block.Block.TheVariants.{Own}
use Rattle.ref_blocks.specs.Plans.{objects_to}
use Rattle.ref_blocks.proofs.lists.listed_lists.Given as goal

abbrev pub invariant-loop-node : goal.invariant-loop-node
invariant-loop-node l = l.lists.items ≡ map (λ n. objects_to (core_of l.trees) 0 (Own n)) (range_with_len 0 l.node-index)
