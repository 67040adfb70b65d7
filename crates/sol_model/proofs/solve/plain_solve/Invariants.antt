use Rattle.sol_model.specs.Families.{room_left}
use Rattle.sol_model.specs.Growth.{IsPart}
use Rattle.sol_model.proofs.solve.plain_solve.Given as goal

-- the rows fit the system, and each closed family has their facts
abbrev pub invariant-loop-fact : goal.invariant-loop-fact
invariant-loop-fact l = IsPart l.system l.rows

-- each new fact leaves less room
abbrev pub decreases-loop-fact : goal.decreases-loop-fact
decreases-loop-fact l = room_left l.rows
