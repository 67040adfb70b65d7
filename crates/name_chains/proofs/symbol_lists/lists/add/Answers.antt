use Rattle.name_chains.proofs.symbol_lists.Adding.{if_ok_more, say_more}
use Rattle.name_chains.proofs.symbol_lists.lists.add.Goals as goal

pub returns : goal.returns
returns c =
    if_ok_more c.put_count.result _ _ (λ done kept ds h. say_more ds c.args.declared c.args.counts.now c.put_count.new.counts c.args.leaves.now c.put_leaf.new.leaves c.count_of-count.result h c.count_of-count.ensures c.in_ok-put_leaf.ensures kept) c.put_count.ensures
