use Rattle.std.proofs.Common.{ap, ◌∙◌}
use Rattle.alias_query.specs.ask_rounds.Said.{answers_text}
use Rattle.unit_report.proofs.unit_answers.answering.told_on_rows.Goals as goal

pub returns-clause-told : goal.returns-clause-told
returns-clause-told g c =
    (c.in_ok-answers.answers.items, c.in_ok-answers.ensures.answers, c.in_ok-text.ensures ∙ ap answers_text c.as_slice.ensures.value)
