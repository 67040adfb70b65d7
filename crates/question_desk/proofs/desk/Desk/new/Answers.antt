use Rattle.std.proofs.Common.{ap, ◌∙◌}
use Rattle.question_desk.specs.declared.view.View.{View}
use Rattle.question_desk.specs.Views.{without_second}
use Rattle.question_desk.proofs.Keeps.{begins, hands_second, hands_taker}
use Rattle.question_desk.proofs.desk.Desk.new.Goals as goal

pub ruled-requires-clause-rule : goal.ruled-requires-clause-rule
ruled-requires-clause-rule c = begins

pub another-second-requires-clause-rule : goal.another-second-requires-clause-rule
another-second-requires-clause-rule c = hands_second _ _ (ap (λ (v : View). v.second) c.in_ok-queue.ensures.3)

pub another-taker-requires-clause-rule : goal.another-taker-requires-clause-rule
another-taker-requires-clause-rule c =
    hands_taker _ _ (ap (λ (v : View). v.takes) (c.another-second.ensures.rule.0 ∙ ap without_second c.in_ok-queue.ensures.3))
