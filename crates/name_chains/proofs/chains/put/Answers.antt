use Rattle.c_scope.proofs.Keys.{updated}
use Rattle.name_chains.proofs.chains.put.Goals as goal

pub returns : goal.returns
returns c = λ other sign. updated c.args.scope c.args.symbol c.args.chains.now c.insert.new.self c.args.chain c.in_ok-insert.ensures.updates other sign
