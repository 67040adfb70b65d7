use Rattle.std.proofs.Common.{◌≡◌, ◌↔◌, Bool, true, sym, subst}
use Rattle.alias_query.specs.Answers.{AnswerOf}
use Rattle.question_desk.proofs.Answered.{yes_says}
use Rattle.question_desk.proofs.settling.says_yes.Goals as goal

pub returns-clause-answer : goal.returns-clause-answer
returns-clause-answer c =
    λ F least.
    let S = c.args.queries.now.system.now in
    let answer = c.answer_to-answer.ensures.answer in
    let P : Bool → Type 0 = λ b. b ≡ true ↔ AnswerOf S F c.args.question in
    subst P (sym c.is_yes.ensures) (yes_says S _ _ _ _ answer (answer.knew (c.args.seat.now.told c.requires.closed)) F least)
