use Rattle.c_scope.proofs.Keys.{updated}
use Rattle.unit_keys.proofs.given_keys.declaring.put.Goals as goal

pub returns : goal.returns
returns c = λ scope symbol. updated c.args.d.scope c.args.d.symbol c.args.places.now c.insert.new.self c.args.d.node c.in_ok-insert.ensures.updates scope symbol
