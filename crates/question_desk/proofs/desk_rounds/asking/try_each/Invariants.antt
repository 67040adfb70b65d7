use Rattle.std.proofs.Common.{◌≡◌, true}
use Rattle.set_rows.specs.Calls.{view, IsOf}
use Rattle.alias_query.specs.ask_rounds.Tries.{AreHeld, HasAsked, NoneOpen}
use Rattle.question_desk.proofs.desk_rounds.asking.try_each.Given as goal

abbrev pub invariant-loop-i : goal.invariant-loop-i
invariant-loop-i l =
    IsOf l.queries.table.now l.seat × HasAsked (view l.fn.seat) (view l.seat) × AreHeld l.queries.system.now l.questions l.answers
    × ((view l.fn.seat).knows ≡ true → NoneOpen l.answers l.i)
