use Rattle.std.proofs.Common.{◌≡◌, ◌++◌, map, drop, slice_get}
use Rattle.c_inits.specs.Designated.{designator_of}
use Rattle.c_inits.specs.View.{all_designators}
use Rattle.c_initialise.specs.Facts.{told}
use Rattle.c_initialise.specs.Nodes.{children_of}
use Rattle.c_initialise.specs.Read.{part_at, before}
use Rattle.c_initialise.proofs.reading.designators_of.Given as goal

-- those so far, and those of the children that are left
abbrev pub invariant-loop-child : goal.invariant-loop-child
invariant-loop-child l =
    all_designators (before l.item (part_at (told l.source) l.source.syntax.now.tree.now.nodes.items)) (children_of (slice_get l.source.syntax.now.tree.now.nodes.items l.item))
    ≡ map designator_of l.designators.items
    ++ all_designators (before l.item (part_at (told l.source) l.source.syntax.now.tree.now.nodes.items)) (drop l.child-index (children_of (slice_get l.source.syntax.now.tree.now.nodes.items l.item)))
