use Rattle.std.proofs.Common.{◌≡◌, take}
use Rattle.c_types.specs.Trees.{Ctype}
use Rattle.c_types.specs.Layout.{placed, overlaid, first_extent}
use Rattle.c_types.specs.Table.{extents_in}
use Rattle.c_types.specs.Inside.{table_of}
use Rattle.c_types.specs.Bounds.{bounds}
use Rattle.c_types.proofs.table.layout_of.Given as goal

abbrev pub invariant-loop-m : goal.invariant-loop-m
invariant-loop-m l = record {
  structure : (t : Ctype) → l.beside_all ≡ bounds (placed (first_extent t) (extents_in (table_of l.entries l.tags l.completed) (take l.m-index l.members)));
  union : (t : Ctype) → l.above_all ≡ bounds (overlaid (first_extent t) (extents_in (table_of l.entries l.tags l.completed) (take l.m-index l.members)));
}
