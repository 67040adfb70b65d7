use Rattle.std.proofs.Common.{◌≡◌, Some, slice_get}
use Rattle.pta_base.specs.declared.effect.Effect.{Effect}
use Rattle.sol_model.specs.Rules.{EffectEdge}
use Rattle.edge_book.specs.Edges.{only, Gains}
use Rattle.edge_book.proofs.Gaining.{Below}
use Rattle.edge_book.proofs.effects.put_effects.Given as goal

-- the edges of the effects so far
abbrev pub invariant-loop-i : goal.invariant-loop-i
invariant-loop-i l = Gains l.initial.pairs.items l.pairs.items (Below l.i (λ k a b. (effect : Effect) × (slice_get l.function.effects k ≡ Some effect) × EffectEdge l.system (only l.call.callee l.location) l.call l.number effect a b))
