use Rattle.std.proofs.Common.{ℕ, ◌<◌, get_or}
use Rattle.sol_model.specs.Families.{members}
use Rattle.call_graph.specs.Graph.{Gains, IsBackAt}
use Rattle.call_graph.proofs.edges.add_backs.Given as goal

-- the call backs of the functions at the locations so far were added
abbrev pub invariant-loop-i : goal.invariant-loop-i
invariant-loop-i l = Gains l.fn.edges.items l.edges.items (λ a b. (k : ℕ) × (k < l.i) × IsBackAt l.system (members l.rows) l.call (get_or l.held k 0) a b)
