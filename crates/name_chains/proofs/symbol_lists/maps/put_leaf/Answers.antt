use Rattle.c_scope.proofs.Keys.{updated}
use Rattle.name_chains.proofs.symbol_lists.maps.put_leaf.Goals as goal

pub returns : goal.returns
returns c = λ other k. updated c.args.symbol c.args.place c.args.leaves.now c.insert.new.self c.args.leaf c.in_ok-insert.ensures.updates other k
