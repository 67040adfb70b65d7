use Rattle.constraints.proofs.OwnedLemmas.{listed_set}
use Rattle.constraints.proofs.owned.Owned.push_reserved.Goals as goal

pub returns : goal.returns
returns c = λ other.
    listed_set c.args.self.now.lists.items c.args.f other c.index_mut.result.now c.push_reserved.new.self _ c.args.key c.requires.there c.index_mut.ensures.value c.push_reserved.ensures.items
