use Rattle.link_merge.proofs.Splitting.{list_changed}
use Rattle.link_merge.proofs.members.add_node.Goals as goal

pub returns : goal.returns
returns c =
    list_changed c.args.lists.now.items c.args.at c.index_mut.result.now c.push.new.self c.args.node c.requires c.index_mut.ensures.value c.in_ok-push.ensures.items
