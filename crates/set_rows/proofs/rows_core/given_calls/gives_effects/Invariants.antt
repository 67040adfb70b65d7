use Rattle.std.proofs.Common.{◌≡◌, ℕ, ◌<◌, Some, slice_get}
use Rattle.pta_base.specs.declared.effect.Effect.{Effect}
use Rattle.sol_model.specs.Families.{members}
use Rattle.sol_model.specs.Rules.{IsDemanded, EffectEdge, EffectFact}
use Rattle.set_rows.proofs.rows_core.given_calls.gives_effects.Given as goal

-- none of the effects so far gives it
abbrev pub invariant-loop-i : goal.invariant-loop-i
invariant-loop-i l = (k : ℕ) (effect : Effect) → k < l.i → slice_get l.function.effects k ≡ Some effect → IsDemanded (EffectEdge l.system (members l.rows) l.call l.number effect) (EffectFact l.call l.number effect) (members l.rows) l.row l.location → ⊥
