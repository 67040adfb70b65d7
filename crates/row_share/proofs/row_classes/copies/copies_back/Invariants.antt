use Rattle.std.proofs.Common.{◌↔◌, ℕ, take, Contains}
use Rattle.sol_model.specs.declared.system.Constraint.TheVariants.{Copy}
use Rattle.row_share.proofs.row_classes.copies.copies_back.Given as goal

abbrev pub invariant-loop-i : goal.invariant-loop-i
invariant-loop-i l = (from to : ℕ) → Contains l.book (to, from) ↔ Contains (take l.i l.system.constraints) (Copy from to)
