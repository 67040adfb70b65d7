use Rattle.sol_model.specs.Growth.{Grows}
use Rattle.sol_model.proofs.carry.carry_into.Given as goal

-- the rows have grown by what is demanded
abbrev pub invariant-loop-source : goal.invariant-loop-source
invariant-loop-source l = Grows l.system l.fn.rows l.rows
