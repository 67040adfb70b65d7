use Rattle.alias_query.proofs.ask_rounds.Keeping.{held_one}
use Rattle.question_desk.proofs.desk_rounds.asking.tried.Goals as goal

pub returns-in-NotYet-clause-held : goal.returns-in-NotYet-clause-held
returns-in-NotYet-clause-held c = held_one _ _ _ _ _ c.answer_to.ensures.answer
