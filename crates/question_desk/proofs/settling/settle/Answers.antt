use Rattle.question_desk.proofs.Answered.{settled_next, only_again}
use Rattle.question_desk.proofs.settling.settle.Goals as goal

pub loop-ask-preserved : goal.loop-ask-preserved
loop-ask-preserved c =
    let before = c.loop-ask.invariant in
    let step = c.says_yes-answer.ensures in (
      step.own,
      step.closed,
      only_again _ _ _ c.requires.closed before.1 step.closed before.2 step.asked,
      settled_next _ _ _ _ _ _ _ c.loop-ask-test.true before.3 step.answer c.in_ok-push.ensures.items,
    )
