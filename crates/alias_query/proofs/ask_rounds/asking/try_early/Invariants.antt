use Rattle.set_rows.specs.Calls.{view, IsOf}
use Rattle.alias_query.specs.ask_rounds.Tries.{AreHeld, HasAsked}
use Rattle.alias_query.proofs.ask_rounds.asking.try_early.Given as goal

abbrev pub invariant-loop-turn : goal.invariant-loop-turn
invariant-loop-turn g l = IsOf l.queries.table.now l.seat × HasAsked (view l.fn.seat) (view l.seat) × AreHeld l.queries.system.now l.questions l.answers
