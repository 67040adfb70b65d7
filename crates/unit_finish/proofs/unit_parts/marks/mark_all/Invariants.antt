use Rattle.unit_finish.specs.unit_parts.Marked.{Marks}
use Rattle.unit_finish.proofs.unit_parts.marks.mark_all.Given as goal

abbrev pub invariant-loop-node : goal.invariant-loop-node
invariant-loop-node l = Marks l.fn.marks.items l.marks.items l.list l.node-index
