use Rattle.mod_ref.proofs.Paths.{MadeOf}
use Rattle.mod_ref.proofs.class_edges.class_edges.Given as goal

-- the pairs of the edges so far
abbrev pub invariant-loop-i : goal.invariant-loop-i
invariant-loop-i l = MadeOf l.edges l.first l.made.items l.i
