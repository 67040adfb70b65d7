use Rattle.std.proofs.Common.{◌≡◌, ℕ, ◌<◌, Some, slice_get}
use Rattle.pta_base.specs.declared.effect.Effect.{Effect}
use Rattle.sol_model.specs.Families.{members}
use Rattle.call_graph.specs.Graph.{Gains, IsBackIn}
use Rattle.call_graph.proofs.edges.add_back_by.Given as goal

-- the call backs of the effects so far were added
abbrev pub invariant-loop-i : goal.invariant-loop-i
invariant-loop-i l = Gains l.fn.edges.items l.edges.items (λ a b. (k : ℕ) × (k < l.i) × ((effect : Effect) × (slice_get l.function.effects k ≡ Some effect) × IsBackIn l.system (members l.rows) l.call effect l.library a b))
