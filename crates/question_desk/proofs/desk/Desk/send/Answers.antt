use Rattle.question_desk.proofs.Keeps.{sends, finds}
use Rattle.question_desk.proofs.desk.Desk.send.Goals as goal

pub push_as-requires-clause-rule : goal.push_as-requires-clause-rule
push_as-requires-clause-rule g c =
    let sender = c.args.sender.now in (sends _ _ _ _ _ _ sender.known sender.role sender.counted, finds _ _)
