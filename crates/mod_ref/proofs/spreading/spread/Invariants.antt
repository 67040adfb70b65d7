use Rattle.sol_model.specs.Families.{room_left}
use Rattle.mod_ref.specs.Ways.{Spreads}
use Rattle.mod_ref.proofs.spreading.spread.Given as goal

-- the rows spread so far
abbrev pub invariant-loop-functions : goal.invariant-loop-functions
invariant-loop-functions l = Spreads l.ways l.fn.rows l.rows

abbrev pub decreases-loop-functions : goal.decreases-loop-functions
decreases-loop-functions l = room_left l.rows
