-- Cells changed under their paths stay in order.
use Rattle.std.proofs.Common.{List, [], ◌∷◌, map}
use Rattle.c_types.specs.declared.term.PathStep.{PathStep}
use Rattle.ref_cells.specs.declared.cells.Cell.{Cell}
use Rattle.ref_cells.specs.Cells.{Entry, CellList}
use Rattle.ref_cells.specs.Order.{IsBeforeAll, IsOrdered}

before_mapped : (g : Entry → Cell) (p : List PathStep) (xs : CellList) → IsBeforeAll p xs → IsBeforeAll p (map (λ e. (e.0, g e)) xs)
before_mapped g p [] h = tt
before_mapped g p (e ∷ xs) h = (h.0, before_mapped g p xs h.1)

pub ordered_mapped : (g : Entry → Cell) (xs : CellList) → IsOrdered xs → IsOrdered (map (λ e. (e.0, g e)) xs)
ordered_mapped g [] h = tt
ordered_mapped g (e ∷ xs) h = (before_mapped g e.0 xs h.0, ordered_mapped g xs h.1)
