-- Cells at the indices of an array.
use Rattle.std.proofs.Common.{arith, ◌≡◌, ℕ, ◌+◌, ◌<◌, ◌≤◌, inl, List, [], ◌∷◌, ◌++◌, length, drop, ap, sym, ◌∙◌}
use Rattle.std.proofs.lemmas.List.{append-nil}
use Rattle.std.proofs.Math.ListN.{drop_of_length-le}
use Rattle.c_types.specs.declared.term.PathStep.TheVariants.{Index}
use Rattle.ref_cells.specs.declared.cells.Cell.{Cell}
use Rattle.ref_cells.specs.Cells.{CellList}
use Rattle.ref_cells.specs.Order.{IsBeforeAll, IsOrdered}
use Rattle.ref_start.specs.Objects.{cells_from}

before_from : (j k : ℕ) (cells : List Cell) → j < k → IsBeforeAll (Index j ∷ []) (cells_from k cells)
before_from j k [] lt = tt
before_from j k (c ∷ cells) lt = (inl (omega arith), before_from j (k + 1) cells (omega arith))

pub cells_ordered : (k : ℕ) (cells : List Cell) → IsOrdered (cells_from k cells)
cells_ordered k [] = tt
cells_ordered k (c ∷ cells) = (before_from k (k + 1) cells (omega arith), cells_ordered (k + 1) cells)

pub cells_end : (cells : List Cell) (i : ℕ) (list all : CellList) → length cells ≤ i → list ++ cells_from i (drop i cells) ≡ all → list ≡ all
cells_end cells i list all past h =
    sym (append-nil list) ∙ (sym (ap (λ (xs : List Cell). list ++ cells_from i xs) (drop_of_length-le cells past)) ∙ h)
