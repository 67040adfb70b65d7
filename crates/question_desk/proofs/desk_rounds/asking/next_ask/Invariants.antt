use Rattle.question_desk.specs.Calls.{IsTakerOf}
use Rattle.question_desk.proofs.desk_rounds.asking.next_ask.Given as goal

abbrev pub invariant-loop : goal.invariant-loop
invariant-loop g l = IsTakerOf l.desk l.taker
