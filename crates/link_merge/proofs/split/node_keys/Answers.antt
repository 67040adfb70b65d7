use Rattle.std.proofs.Common.{length, get_or, sym, ◌∙◌, arith}
use Rattle.link_merge.specs.Parted.{lists_of}
use Rattle.link_merge.proofs.Splitting.{list_read, nodes_all}
use Rattle.link_merge.proofs.split.node_keys.Goals as goal

pub node_key-requires-clause-kids : goal.node_key-requires-clause-kids
node_key-requires-clause-kids c =
    let x = get_or c.args.list.now c.loop-node.node-index 0 in
    let below = c.requires.nodes c.loop-node.node-index 0 c.loop-node-test.true in
    let many = c.requires.many in
    let there = list_read c.args.kids.now x c.index-kids-node.result (omega arith) c.index-kids-node.is in
    nodes_all (lists_of c.args.kids.now) (length c.args.class.now) x c.as_slice-own.result.now c.requires.kids (there ∙ sym c.as_slice-own.ensures.value)
