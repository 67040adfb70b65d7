use Rattle.std.proofs.Common.{◌≡◌, ◌≤◌, length}
use Rattle.question_desk.specs.Calls.{number_of, sent, IsSenderOf}
use Rattle.solver_cases.proofs.order.send_all.Given as goal

abbrev pub invariant-loop : goal.invariant-loop
invariant-loop g l =
    (goal.iterator-loop g).can_next l.iterator' × (goal.iterator-loop g).is_finite l.iterator'
    × IsSenderOf l.desk l.sender × (number_of l.sender ≡ number_of l.fn.sender) × (length (sent l.sender) ≡ l.next) × (l.next ≤ 1000)
