use Rattle.std.proofs.Common.{List, All, sym, subst}
use Rattle.alias_query.specs.declared.answers.Question.{Question}
use Rattle.alias_query.specs.Answers.{IsKnown}
use Rattle.alias_query.specs.ask_rounds.Said.{AreAnswers}
use Rattle.unit_report.proofs.SharedProgram.{solved_shared, program_answers}
use Rattle.unit_report.proofs.unit_answers.answering.answers_of_system.Goals as goal

pub told_on_rows-requires-clause-known : goal.told_on_rows-requires-clause-known
told_on_rows-requires-clause-known g c κs within =
    subst (λ (questions : List Question). All (IsKnown c.in_ok-list.reduced) questions) (sym c.as_slice.ensures.value) c.in_ok-list.ensures.known

pub returns-clause-answered : goal.returns-clause-answered
returns-clause-answered g c =
    let S = c.args.made.system in
    let T = c.in_ok-list.reduced in
    let done = c.in_ok-found.ensures.solved in
    let told = c.in_ok-found.ensures.told in
    let Q : List Question → Type 0 = λ questions. AreAnswers T done.family questions told.0 in
    program_answers c.args.made.program c.args.made.space S T done.family c.args.script.now c.in_ok-found.found.0.items c.in_ok-list.list.items told.0 c.requires.system c.in_ok-list.ensures.shared done.least c.in_ok-list.ensures.asked
    (subst Q c.as_slice.ensures.value (told.1 done.family done.least)) told.2

pub returns-clause-solved : goal.returns-clause-solved
returns-clause-solved g c = solved_shared c.args.made.system c.in_ok-list.reduced c.in_ok-found.found.1 c.in_ok-list.ensures.shared c.in_ok-found.ensures.solved
