use Rattle.sol_model.specs.Growth.{Grows}
use Rattle.sol_model.proofs.carry.carry_contents.Given as goal

-- the rows have grown by what is demanded
abbrev pub invariant-loop-target : goal.invariant-loop-target
invariant-loop-target l = Grows l.system l.fn.rows l.rows
