-- Objects that a call makes, and those of the library.
use Rattle.std.specs.Prelude.{ℕ, ◌+◌, ◌%◌, ◌==◌, Bool, true, false, if◌then◌else◌, List, [], ◌∷◌, ◌++◌, Option}
use Rattle.std.specs.Prelude.{Some, None, Err}
use Rattle.c_types.specs.declared.key.ObjectKey.{ObjectKey}
use Rattle.c_types.specs.declared.key.ObjectKey.TheVariants.{Library}
use Rattle.c_types.specs.declared.term.PathStep.{PathStep}
use Rattle.c_types.specs.declared.term.PathStep.TheVariants.{Index}
use Rattle.c_types.specs.declared.term.TypeId.{TypeId}
use Rattle.ref_cells.specs.declared.cells.Reason.TheVariants.{Mismatch}
use Rattle.ref_cells.specs.declared.cells.Cell.TheVariants.{Pointer}
use Rattle.ref_cells.specs.declared.instance.Instance.{Instance}
use Rattle.ref_cells.specs.Cells.{CellList}
use Rattle.ref_mem.specs.Reads.{one_cell}
use Rattle.ref_elements.specs.Outcomes.{Effect, gives, start_value}

-- a word by which an allocation fails, and some objects aren't there
abbrev pub is_odd : ℕ → Bool
is_odd word = word % 2 == 1

-- a new instance behind the others
abbrev pub with_new : List Instance → ObjectKey → Option TypeId → ℕ → Bool → CellList → List Instance
with_new memory key ty bytes zero cells =
    memory ++ record { key = key; live = true; ty = ty; bytes = bytes; zero = zero; cells = cells } ∷ []

-- a path that is the first element's alone
abbrev pub is_start : List PathStep → Bool
is_start (Index i ∷ []) = i == 0
is_start path = false

-- the number of the first instance of the library object in that position
abbrev pub is_object : ℕ → ObjectKey → Bool
is_object position (Library other) = other == position
is_object position key = false

abbrev pub object_from : ℕ → ℕ → List Instance → Option ℕ
object_from position i [] = None
object_from position i (inst ∷ rest) =
    if is_object position inst.key then Some i else object_from position (i + 1) rest

abbrev pub element_of_object : List Instance → Option ℕ → Effect
element_of_object memory None = Err Mismatch
element_of_object memory (Some i) = gives memory (start_value i)

abbrev pub place_of_object : List Instance → Option ℕ → Effect
place_of_object memory None = Err Mismatch
place_of_object memory (Some i) = gives memory (one_cell (Pointer i [] false))
