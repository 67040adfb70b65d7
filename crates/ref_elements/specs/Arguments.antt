-- The arguments of a call of a library function.
use Rattle.std.specs.Prelude.{ℕ, ◌^◌, ℤ, pos, unsigned_abs, List, [], ◌∷◌, Option, Some, None, slice_get}
use Rattle.ref_cells.specs.declared.cells.Cell.{Cell}
use Rattle.ref_cells.specs.declared.cells.Cell.TheVariants.{Unset, Number}
use Rattle.ref_cells.specs.declared.cells.Value.{Value}
use Rattle.ref_cells.specs.Cells.{CellList}
use Rattle.ref_cells.specs.Numbers.{low_of}

abbrev pub first_cell : CellList → Cell
first_cell [] = Unset
first_cell (e ∷ rest) = e.1

abbrev pub scalar_of : Option Value → Cell
scalar_of None = Unset
scalar_of (Some value) = first_cell value.cells

-- the argument in that place, from 0
abbrev pub argument : List Value → ℕ → Cell
argument arguments k = scalar_of (slice_get arguments k)

abbrev pub number_of : Cell → ℤ
number_of (Number n) = n
number_of cell = pos 0

-- a number of bytes, elements or characters is one of `unsigned long`
abbrev pub count_of : Cell → ℕ
count_of cell = unsigned_abs (low_of (2 ^ 63) (number_of cell))
