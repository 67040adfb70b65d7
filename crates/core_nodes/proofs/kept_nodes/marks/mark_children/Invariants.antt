use Rattle.core_nodes.specs.kept_nodes.Marked.{Marks}
use Rattle.core_nodes.proofs.kept_nodes.marks.mark_children.Given as goal

abbrev pub invariant-loop-child : goal.invariant-loop-child
invariant-loop-child l = Marks l.from l.fn.marks.items l.marks.items l.children l.child-index
