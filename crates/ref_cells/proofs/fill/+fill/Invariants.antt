-- The levels go down from a whole to its members, and the numbers of types from an array to its elements.
use Rattle.std.proofs.Common.{◌≡◌, ◌+◌, ◌++◌, ◌*◌, ◌^◌, length, map, drop}
use Rattle.c_types.specs.Table.{type_of}
use Rattle.ref_cells.specs.Cells.{seen, joined}
use Rattle.ref_cells.specs.Values.{elements, members_from, filled_by, filled_to}
use Rattle.ref_cells.proofs.fill.+fill.Given as goal

abbrev pub decreases-fill : goal.decreases-fill
decreases-fill l = l.levels * 2 ^ 34 + 4 * l.ty.0 + 2

abbrev pub decreases-fill_active : goal.decreases-fill_active
decreases-fill_active l = l.levels * 2 ^ 34 + 1

abbrev pub decreases-fill_below : goal.decreases-fill_below
decreases-fill_below l = l.levels * 2 ^ 34

abbrev pub decreases-fill_elements : goal.decreases-fill_elements
decreases-fill_elements l = l.levels * 2 ^ 34 + 4 * l.of.0 + 3

abbrev pub decreases-fill_members : goal.decreases-fill_members
decreases-fill_members l = l.levels * 2 ^ 34 + 1

abbrev pub invariant-fill_elements-loop-i : goal.invariant-fill_elements-loop-i
invariant-fill_elements-loop-i l = record {
  front : l.front.items ≡ l.initial.front.items;
  steps : length l.initial.front.items ≡ l.steps;
  cells : l.out.items ≡ l.initial.out.items ++ joined l.initial.front.items (elements (filled_by l.filling.types.now l.filling.marked (filled_to l.filling.types.now l.filling.marked l.levels) (type_of l.filling.types.now l.of.0)) l.i (seen l.depth l.cells));
}

abbrev pub invariant-fill_members-loop-k : goal.invariant-fill_members-loop-k
invariant-fill_members-loop-k l = record {
  front : l.front.items ≡ l.initial.front.items;
  steps : length l.initial.front.items ≡ l.steps;
  cells : l.out.items ++ joined l.initial.front.items (members_from (filled_to l.filling.types.now l.filling.marked l.levels) l.k (drop l.k (map (λ m. type_of l.filling.types.now m.ty.0) l.members)) (seen l.depth l.cells))
      ≡ l.initial.out.items ++ joined l.initial.front.items (members_from (filled_to l.filling.types.now l.filling.marked l.levels) 0 (map (λ m. type_of l.filling.types.now m.ty.0) l.members) (seen l.depth l.cells));
}
