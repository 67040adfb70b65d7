use Rattle.std.proofs.Common.{◌≡◌, take}
use Rattle.set_rows.specs.Views.{OnlyAsked}
use Rattle.set_rows.specs.Calls.{view, IsOf}
use Rattle.question_desk.specs.Settled.{AreSettled}
use Rattle.question_desk.proofs.settling.settle.Given as goal

-- the asks so far are settled, and the seat has only asked
abbrev pub invariant-loop-ask : goal.invariant-loop-ask
invariant-loop-ask l =
    IsOf l.queries.table.now l.seat × ((view l.seat).last ≡ 1) × OnlyAsked (view l.fn.seat) (view l.seat)
    × AreSettled l.queries.system.now (take l.ask-index l.asks) l.answers.items
