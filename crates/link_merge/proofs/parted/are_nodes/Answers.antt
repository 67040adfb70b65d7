use Rattle.std.proofs.Common.{◌<◌, ℕ, List, All, sym, subst, ◌∙◌, arith, below_more}
use Rattle.link_merge.specs.Parted.{lists_of, list_of}
use Rattle.link_merge.proofs.Splitting.{list_read, nodes_right}
use Rattle.link_merge.proofs.parted.are_nodes.Goals as goal

pub loop-list-preserved : goal.loop-list-preserved
loop-list-preserved c =
    let lists = c.args.lists.now in
    let i = c.loop-list.list-index in
    let there = list_read lists i c.list-item.result c.loop-list-test.true c.list-item.is in
    let fine : All (λ n. n < c.args.count) c.as_slice.result.now = c.all_below.ensures c.if-not-all_below.false in
    below_more (λ x. All (λ n. n < c.args.count) (list_of (lists_of lists) x)) i c.loop-list.invariant (subst (λ (xs : List ℕ). All (λ n. n < c.args.count) xs) (c.as_slice.ensures.value ∙ sym there) fine)

pub returns : goal.returns
returns c = λ is. nodes_right c.args.lists.now c.args.count (λ x lt. c.loop-list.invariant x (omega arith))
