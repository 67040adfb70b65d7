use Rattle.std.proofs.Common.{ℕ, ◌<◌, get_or}
use Rattle.call_graph.specs.Graph.{Gains, IsTo}
use Rattle.call_graph.proofs.edges.add_all_to.Given as goal

-- the pairs of the locations so far were added
abbrev pub invariant-loop-i : goal.invariant-loop-i
invariant-loop-i l = Gains l.fn.edges.items l.edges.items (λ a b. (k : ℕ) × (k < l.i) × IsTo l.system l.signature l.caller (get_or l.held k 0) a b)
