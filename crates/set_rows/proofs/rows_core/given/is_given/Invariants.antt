use Rattle.std.proofs.Common.{◌≡◌, ℕ, ◌<◌, Some, slice_get}
use Rattle.sol_model.specs.declared.system.Constraint.{Constraint}
use Rattle.sol_model.specs.Families.{members}
use Rattle.sol_model.specs.Rules.{Gives}
use Rattle.set_rows.proofs.rows_core.given.is_given.Given as goal

-- none of the constraints so far gives it
abbrev pub invariant-loop-i : goal.invariant-loop-i
invariant-loop-i l = (k : ℕ) (constraint : Constraint) → k < l.i → slice_get l.system.constraints k ≡ Some constraint → Gives l.system (members l.rows) constraint l.row l.location → ⊥
