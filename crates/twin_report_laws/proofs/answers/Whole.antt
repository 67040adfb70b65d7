-- Settings that are alike have one text of answers.
use Rattle.std.proofs.Common.{List, map, sym, ◌∙◌, subst}
use Rattle.alias_query.specs.declared.answers.Question.{Question}
use Rattle.alias_query.specs.ask_rounds.Said.{AreAnswers}
use Rattle.twin_report_laws.specs.systems.Systems.{question_moved}
use Rattle.twin_report_laws.proofs.systems.Whole.{one_text as one_text_of}
use Rattle.twin_report_laws.specs.answers.Same.{OneText}
use Rattle.twin_report_laws.proofs.answers.Reading.{both_asked}

pub one_text : OneText
one_text one other lines text again alike h t =
    let o = alike.systems in
    let (same, rounds) = both_asked one other alike h.valid h.count lines h.questions t.questions h.asked t.asked in
    let answered : AreAnswers other.system t.family (map (question_moved o.to) h.questions) t.answers =
    subst (λ (questions : List Question). AreAnswers other.system t.family questions t.answers) same t.answered in
    t.text_is
    ∙ (sym (one_text_of one.system other.system o.to o.back h.family t.family h.questions h.answers t.answers h.valid t.valid o.lead o.again h.least t.least rounds h.answered answered) ∙ sym h.text_is)
