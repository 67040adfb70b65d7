use Rattle.sol_model.specs.Families.{members}
use Rattle.stop_places.specs.Found.{EachJudged}
use Rattle.stop_places.proofs.targets.judged_calls.Given as goal

-- the calls so far
abbrev pub invariant-loop-number : goal.invariant-loop-number
invariant-loop-number l = EachJudged l.system (members l.rows) l.number l.list.items
