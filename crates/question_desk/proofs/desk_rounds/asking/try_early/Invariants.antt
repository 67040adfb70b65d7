use Rattle.set_rows.specs.Calls.{view, IsOf}
use Rattle.alias_query.specs.ask_rounds.Tries.{AreHeld, HasAsked}
use Rattle.question_desk.proofs.desk_rounds.asking.try_early.Given as goal

abbrev pub invariant-loop : goal.invariant-loop
invariant-loop l =
    IsOf l.queries.table.now l.seat × HasAsked (view l.fn.seat) (view l.seat) × AreHeld l.queries.system.now l.questions l.answers
