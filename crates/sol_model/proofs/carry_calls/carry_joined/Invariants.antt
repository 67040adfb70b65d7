use Rattle.sol_model.specs.Growth.{Grows}
use Rattle.sol_model.proofs.carry_calls.carry_joined.Given as goal

-- the rows have grown by what is demanded
abbrev pub invariant-loop-i : goal.invariant-loop-i
invariant-loop-i l = Grows l.system l.fn.rows l.rows
