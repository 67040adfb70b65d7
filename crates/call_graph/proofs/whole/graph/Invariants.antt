use Rattle.std.proofs.Common.{◌≡◌, ℕ, ◌<◌, [], Some, slice_get}
use Rattle.sol_model.specs.declared.system.CallSite.{CallSite}
use Rattle.sol_model.specs.Families.{members}
use Rattle.call_graph.specs.Graph.{Gains, IsCallEdge}
use Rattle.call_graph.proofs.whole.graph.Given as goal

-- the edges of the calls so far were added
abbrev pub invariant-loop-number : goal.invariant-loop-number
invariant-loop-number l = Gains [] l.edges.items (λ a b. (k : ℕ) × (k < l.number) × ((c : CallSite) × (slice_get l.system.calls k ≡ Some c) × IsCallEdge l.system (members l.rows) c a b))
