use Rattle.std.proofs.Common.{ap}
use Rattle.question_desk.specs.declared.view.View.{View}
use Rattle.question_desk.proofs.Keeps.{takes, finds}
use Rattle.question_desk.proofs.desk.Desk.take.Goals as goal

pub pop_as-requires-clause-rule : goal.pop_as-requires-clause-rule
pop_as-requires-clause-rule g c = (takes _ _ (ap (λ (v : View). v.takes) c.args.taker.now.role), finds _ _)
