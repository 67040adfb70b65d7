-- What a sender knows.
use Rattle.std.specs.Prelude.{ℕ, ◌==◌, if◌then◌else◌, List}
use Rattle.alias_query.specs.declared.answers.Question.{Question}
use Rattle.question_desk.specs.declared.view.View.{View}

-- the questions that a view has as those of a sender, 0 or 1
abbrev pub sent_by : ℕ → View → List Question
sent_by sender v = if sender == 0 then v.sent_first else v.sent_second
