use Rattle.std.proofs.Common.{◌≡◌, ℕ, ◌<◌, Some, slice_get}
use Rattle.sol_model.specs.declared.system.Function.{Function}
use Rattle.sol_model.specs.Families.{Has, members}
use Rattle.sol_model.specs.Rules.{PassesBack, back_signature}
use Rattle.set_rows.specs.rows_core.Given.{IsCarried}
use Rattle.set_rows.proofs.rows_core.given_calls.gives_backs.Given as goal

-- none of the functions so far gets it
abbrev pub invariant-loop-back : goal.invariant-loop-back
invariant-loop-back l = (back : ℕ) (function : Function) → back < l.back → slice_get l.system.functions back ≡ Some function → Has (members l.rows) l.argument function.location → function.signature ≡ back_signature l.passed → IsCarried (PassesBack l.call l.passed function) (members l.rows) l.row l.location → ⊥
