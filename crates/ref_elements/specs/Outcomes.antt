-- What a library function does: a new memory, a value, and how the call goes on.
use Rattle.std.specs.Prelude.{ℕ, ℤ, Bool, true, false, map, filter, List, [], ◌∷◌, Result, Ok}
use Rattle.c_types.specs.declared.term.PathStep.{PathStep}
use Rattle.c_types.specs.declared.term.PathStep.TheVariants.{Index}
use Rattle.c_types.specs.Trees.{Ctype}
use Rattle.ref_cells.specs.declared.cells.Reason.{Reason}
use Rattle.ref_cells.specs.declared.cells.Cell.{Cell}
use Rattle.ref_cells.specs.declared.cells.Cell.TheVariants.{Number, Null, Pointer, Function}
use Rattle.ref_cells.specs.declared.cells.Value.{Value}
use Rattle.ref_cells.specs.declared.instance.Instance.{Instance}
use Rattle.ref_cells.specs.Cells.{CellList}
use Rattle.ref_cells.specs.Numbers.{converted}
use Rattle.ref_mem.specs.Reads.{one_cell}
use Rattle.ref_elements.specs.declared.outcome.LibOutcome.{LibOutcome}
use Rattle.ref_elements.specs.declared.outcome.Next.{Next}
use Rattle.ref_elements.specs.declared.outcome.Next.TheVariants.{Done}

-- the memory that it leaves, and what it answers
pub record Effected : Type 0 where
  pub memory : List Instance
  pub outcome : LibOutcome

abbrev pub Effect : Type 0
Effect = Result Effected Reason

abbrev pub no_value : Value
no_value = record { cells = [] }

-- the call goes on like this
abbrev pub goes : List Instance → Value → Next → Effect
goes memory value next =
    Ok (record { memory = memory; outcome = record { value = value; stores = []; next = next } })

-- the call is done, and puts no pointer into a cell
abbrev pub gives : List Instance → Value → Effect
gives memory value = goes memory value Done

-- the call is done, and puts these pointers into cells
abbrev pub stores_and_gives : List Instance → Value → List (Cell × Cell) → Effect
stores_and_gives memory value stores =
    Ok (record { memory = memory; outcome = record { value = value; stores = stores; next = Done } })

-- a pointer or a function
abbrev pub is_pointing : Cell → Bool
is_pointing (Pointer instance path past) = true
is_pointing (Function key) = true
is_pointing cell = false

abbrev pub place_in : ℕ → List PathStep → Cell
place_in instance path = Pointer instance path false

-- the pointers among these cells of an instance, each with its place
abbrev pub pointers_in : ℕ → CellList → List (Cell × Cell)
pointers_in instance cells = map (λ e. (place_in instance e.0, e.1)) (filter (λ e. is_pointing e.1) cells)

-- a number as one of the result's type
abbrev pub number_value : Ctype → ℤ → Value
number_value t n = one_cell (Number (converted t n))

abbrev pub null_value : Value
null_value = one_cell Null

-- the first element of an instance
abbrev pub start_of : ℕ → Cell
start_of instance = Pointer instance (Index 0 ∷ []) false

abbrev pub start_value : ℕ → Value
start_value instance = one_cell (start_of instance)
