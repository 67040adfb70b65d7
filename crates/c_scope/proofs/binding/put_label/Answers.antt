use Rattle.c_scope.proofs.Keys.{updated}
use Rattle.c_scope.proofs.binding.put_label.Goals as goal

pub returns : goal.returns
returns c = λ other sign. updated c.args.body c.args.symbol c.args.labels.now c.insert.new.self c.args.node c.in_ok-insert.ensures.updates other sign
