use Rattle.sol_model.specs.Families.{room_left}
use Rattle.sol_model.specs.Growth.{Grows}
use Rattle.sol_model.proofs.solve.settle.Given as goal

-- the rows have grown by what is demanded
abbrev pub invariant-loop-fact : goal.invariant-loop-fact
invariant-loop-fact l = Grows l.system l.fn.rows l.rows

-- each new fact leaves less room
abbrev pub decreases-loop-fact : goal.decreases-loop-fact
decreases-loop-fact l = room_left l.rows
