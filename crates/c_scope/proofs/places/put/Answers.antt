use Rattle.c_scope.proofs.Keys.{updated}
use Rattle.c_scope.proofs.places.put.Goals as goal

pub returns : goal.returns
returns c = λ other sign. updated c.args.scope c.args.symbol c.args.places.now c.insert.new.self c.args.entry c.in_ok-insert.ensures.updates other sign
