use Rattle.std.proofs.Common.{◌≡◌, ◌++◌, map, take}
use Rattle.std.specs.Prelude.{◌==◌, filter, not}
use Rattle.sol_model.specs.declared.system.Constraint.TheVariants.{Copy}
use Rattle.constraints.proofs.start.push_taken.Given as goal

abbrev pub invariant-loop-row : goal.invariant-loop-row
invariant-loop-row l = l.list.items ≡ l.fn.list.items ++ map (λ row. Copy l.outside row) (filter (λ row. not (row == l.none)) (take l.row-index l.rows))
