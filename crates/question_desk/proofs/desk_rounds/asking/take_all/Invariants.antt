use Rattle.set_rows.specs.Calls.{view, IsOf}
use Rattle.alias_query.specs.ask_rounds.Tries.{AreHeld, HasAsked}
use Rattle.question_desk.specs.Calls.{IsTakerOf}
use Rattle.question_desk.proofs.desk_rounds.asking.take_all.Given as goal

abbrev pub invariant-loop : goal.invariant-loop
invariant-loop g l =
    IsTakerOf l.desk l.taker × IsOf l.queries.table.now l.seat × HasAsked (view l.fn.seat) (view l.seat)
    × AreHeld l.queries.system.now l.questions l.answers
