use Rattle.std.proofs.Common.{◌≡◌, ℕ, ◌<◌, Some, slice_get}
use Rattle.sol_model.specs.declared.system.Function.{Function}
use Rattle.sol_model.specs.Families.{Has, members}
use Rattle.sol_model.specs.Rules.{IsDemanded, TargetEdge, TargetFact}
use Rattle.set_rows.proofs.rows_core.given_calls.gives_call.Given as goal

-- none of the functions so far gives it
abbrev pub invariant-loop-target : goal.invariant-loop-target
invariant-loop-target l = (target : ℕ) (function : Function) → target < l.target → slice_get l.system.functions target ≡ Some function → Has (members l.rows) l.call.callee function.location → function.signature ≡ l.call.signature
    → IsDemanded (TargetEdge l.system (members l.rows) l.call target function function.library) (TargetFact l.call target function function.library) (members l.rows) l.row l.location → ⊥
