use Rattle.std.proofs.Common.{◌≡◌, drop, slice_get, length}
use Rattle.c_inits.specs.View.{all_items}
use Rattle.c_initialise.specs.c_braces.Tree.{init_at, ItemsBefore, Grows}
use Rattle.c_initialise.specs.Facts.{told}
use Rattle.c_initialise.specs.Nodes.{children_of}
use Rattle.c_initialise.specs.Read.{part_at, before}
use Rattle.c_initialise.proofs.Listed.{items_then}
use Rattle.c_initialise.proofs.reading.+reading.Given as goal

-- the items so far, and those of the children that are left
abbrev pub invariant-read_items-loop-child : goal.invariant-read_items-loop-child
invariant-read_items-loop-child l = record {
  items : all_items (before l.list (part_at (told l.source) l.source.syntax.now.tree.now.nodes.items)) (children_of (slice_get l.source.syntax.now.tree.now.nodes.items l.list))
      ≡ items_then (init_at l.source.unit.now.types l.inits.items) l.entries.items
      (all_items (before l.list (part_at (told l.source) l.source.syntax.now.tree.now.nodes.items)) (drop l.child-index (children_of (slice_get l.source.syntax.now.tree.now.nodes.items l.list))));
  within : ItemsBefore (length l.inits.items) l.entries.items;
  grows : Grows l.source.unit.now.types l.initial.inits.items l.inits.items;
}

abbrev pub decreases-read_init : goal.decreases-read_init
decreases-read_init l = l.node

abbrev pub decreases-read_items : goal.decreases-read_items
decreases-read_items l = l.list

abbrev pub decreases-read_item : goal.decreases-read_item
decreases-read_item l = l.item
