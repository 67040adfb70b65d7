-- The literals among the nodes so far are in the lists, and where jumps go.
use Rattle.std.proofs.Common.{◌≡◌, map, length}
use Rattle.std.specs.List.{range_with_len}
use Rattle.core_tree.specs.Seen.{core_of}
use Rattle.ref_blocks.specs.declared.block.Block.TheVariants.{Own, Part}
use Rattle.ref_blocks.specs.Marks.{marks_to}
use Rattle.ref_blocks.specs.Plans.{objects_to}
use Rattle.ref_blocks.proofs.plan.Plan.of.Given as goal

abbrev pub invariant-loop-n : goal.invariant-loop-n
invariant-loop-n l = record {
  own : l.own.items ≡ map (λ b. objects_to (core_of l.trees) l.n (Own b)) (range_with_len 0 (length l.trees.nodes.now));
  parts : l.parts.items ≡ map (λ b. objects_to (core_of l.trees) l.n (Part b)) (range_with_len 0 (length l.trees.nodes.now));
  marks : l.marks.items ≡ map (marks_to l.trees.nodes.now l.n) (range_with_len 0 (length l.trees.nodes.now));
}
