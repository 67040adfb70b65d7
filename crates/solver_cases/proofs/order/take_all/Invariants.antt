use Rattle.question_desk.specs.Calls.{IsTakerOf}
use Rattle.solver_cases.proofs.order.take_all.Given as goal

abbrev pub invariant-loop : goal.invariant-loop
invariant-loop g l =
    (goal.iterator-loop g).can_next l.iterator' × (goal.iterator-loop g).is_finite l.iterator' × IsTakerOf l.desk l.taker
