use Rattle.set_rows.specs.Calls.{view}
use Rattle.alias_query.specs.ask_rounds.Solves.{HasSolved}
use Rattle.alias_query.proofs.ask_rounds.Joining.{was_ok}
use Rattle.alias_query.proofs.ask_rounds.Answering.{answers_said}
use Rattle.question_desk.proofs.desk_rounds.solving.solve_and_ask_by_desk.Goals as goal

pub returns-in-Ok-clause-answers : goal.returns-in-Ok-clause-answers
returns-in-Ok-clause-answers g c F least =
    let done : HasSolved c.args.system.now (view c.args.seat) (view c.beside-seat.result.0) = was_ok c.beside-seat.result.2 c.in-Ok.field-0 _ c.in-Ok.is c.beside-seat.ensures.solved in
    answers_said c.args.system.now F c.args.questions.now _ least c.settled.ensures.held (c.settled.ensures.settled done.knows)
