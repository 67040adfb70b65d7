-- The list of one node more.
use Rattle.std.proofs.Common.{arith, ◌≡◌, ℕ, [], length, map, ap, ◌∙◌}
use Rattle.std.specs.List.{range_with_len}
use Rattle.core_tree.specs.Seen.{core_of}
use Rattle.ref_blocks.specs.declared.block.Block.TheVariants.{Own}
use Rattle.ref_blocks.specs.Order.{put_all}
use Rattle.ref_blocks.specs.Plans.{objects_to}
use Rattle.ref_blocks.proofs.Objects.{listed_more}
use Rattle.ref_blocks.proofs.lists.listed_lists.Goals as goal

pub loop-node-preserved : goal.loop-node-preserved
loop-node-preserved c = c.in_ok-push.ensures.ok
    ∙ listed_more (core_of c.args.trees.now) c.loop-node.node-index c.node-item.result c.loop-node.lists.items c.in_ok-list.list c.loop-node-test.true c.node-item.is c.loop-node.invariant (c.in_ok-list.ensures ∙ ap (put_all c.args.trees.now.entities.now []) c.listed_by.ensures)

pub returns : goal.returns
returns c =
    let e : c.loop-node.node-index ≡ length c.args.trees.now.nodes.now = omega arith in
    c.loop-node.invariant ∙ ap (λ (k : ℕ). map (λ (n : ℕ). objects_to (core_of c.args.trees.now) 0 (Own n)) (range_with_len 0 k)) e
