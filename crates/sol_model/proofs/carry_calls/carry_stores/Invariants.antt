use Rattle.sol_model.specs.Growth.{Grows}
use Rattle.sol_model.proofs.carry_calls.carry_stores.Given as goal

-- the rows have grown by what is demanded
abbrev pub invariant-loop-location : goal.invariant-loop-location
invariant-loop-location l = Grows l.system l.fn.rows l.rows
