-- So many lists are there.
use Rattle.std.proofs.Common.{◌≡◌, map}
use Rattle.std.specs.List.{range_with_len}
use Rattle.core_tree.specs.Seen.{core_of}
use Rattle.ref_blocks.specs.declared.block.Block.TheVariants.{Part}
use Rattle.ref_blocks.specs.Plans.{objects_to}
use Rattle.ref_blocks.proofs.lists.empty_lists.Given as goal

abbrev pub invariant-loop : goal.invariant-loop
invariant-loop l = l.lists.items ≡ map (λ n. objects_to (core_of l.trees) 0 (Part n)) (range_with_len 0 l.counter)
