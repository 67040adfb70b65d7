use Rattle.std.proofs.Common.{◌≡◌, drop, slice_get}
use Rattle.c_initialise.specs.Nodes.{children_of, is_before, first_such}
use Rattle.c_initialise.proofs.nodes.child_before.Given as goal

abbrev pub invariant-loop-child : goal.invariant-loop-child
invariant-loop-child l =
    first_such (is_before l.syntax.tree.now.nodes.items l.production l.parent) (drop l.child-index (children_of (slice_get l.syntax.tree.now.nodes.items l.parent)))
    ≡ first_such (is_before l.syntax.tree.now.nodes.items l.production l.parent) (children_of (slice_get l.syntax.tree.now.nodes.items l.parent))
