-- Parts of an instance, and what they leave.
use Rattle.std.specs.Prelude.{ℕ, List, [], ◌∷◌, ◌++◌, slice_get}
use Rattle.c_types.specs.declared.term.PathStep.{PathStep}
use Rattle.c_types.specs.declared.term.TypeId.{TypeId}
use Rattle.c_types.specs.Table.{Table}
use Rattle.ref_cells.specs.declared.cells.Cell.{Cell}
use Rattle.ref_cells.specs.declared.instance.Instance.{Instance}
use Rattle.ref_cells.specs.Cells.{CellList, joined}
use Rattle.ref_mem.specs.Reads.{one_cell}
use Rattle.ref_mem.specs.Writes.{changed, with_parts, typed_as}
use Rattle.ref_elements.specs.Outcomes.{Effect, stores_and_gives, pointers_in}

-- parts of an instance, each under its path
abbrev pub Parts : Type 0
Parts = List (List PathStep × CellList)

abbrev pub pointers_of : ℕ → Parts → List (Cell × Cell)
pointers_of i [] = []
pointers_of i (part ∷ rest) = pointers_in i (joined part.0 part.1) ++ pointers_of i rest

-- the memory with parts in an instance, which gets a type where it has none
abbrev pub with_all : Table → List Instance → ℕ → TypeId → Parts → List Instance
with_all table memory i id parts =
    changed memory i (slice_get memory i) (λ inst. with_parts table parts (typed_as id inst))

-- the parts are put, and the call gives a value
abbrev pub puts : Table → List Instance → ℕ → TypeId → Parts → Cell → Effect
puts table memory i id parts value =
    stores_and_gives (with_all table memory i id parts) (one_cell value) (pointers_of i parts)
