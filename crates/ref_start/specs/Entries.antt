-- A program that is entered from outside, by functions whose arguments a word chooses.
use Rattle.std.specs.Prelude.{ℕ, zero, suc, ◌+◌, ◌/◌, ◌%◌, pos, true, false, List, [], ◌∷◌, ◌++◌}
use Rattle.std.specs.Prelude.{Option, Some, None, Result, Ok, length, map, filter, slice_get, get_or}
use Rattle.c_types.specs.declared.key.ObjectKey.{ObjectKey}
use Rattle.c_types.specs.declared.key.ObjectKey.TheVariants.{Outside}
use Rattle.c_types.specs.declared.term.TypeId.{TypeId}
use Rattle.c_types.specs.Trees.{Ctype, PointerTo, FunctionFrom}
use Rattle.c_types.specs.Table.{Table, type_of}
use Rattle.core_tree.specs.Typed.{CoreTrees}
use Rattle.obj_space.specs.View.{view_of}
use Rattle.row_numbers.specs.Functions.{key_id, parameters_of}
use Rattle.ref_cells.specs.declared.cells.Reason.{Reason}
use Rattle.ref_cells.specs.declared.cells.Cell.{Cell}
use Rattle.ref_cells.specs.declared.cells.Cell.TheVariants.{Number, Null}
use Rattle.ref_cells.specs.declared.cells.Value.{Value}
use Rattle.ref_cells.specs.declared.instance.Instance.{Instance}
use Rattle.ref_cells.specs.Numbers.{converted}
use Rattle.ref_mem.specs.Reads.{one_cell}
use Rattle.ref_elements.specs.Runs.{◌>>=◌}
use Rattle.ref_elements.specs.Types.{same_type}
use Rattle.ref_elements.specs.Outcomes.{start_of}
use Rattle.ref_values.specs.Memory.{pointee, complete_only}
use Rattle.ref_state.specs.declared.state.State.{State}
use Rattle.ref_frames.specs.Running.{Running}
use Rattle.ref_frames.specs.Frames.{entered, finished}
use Rattle.ref_frames.specs.OnTop.{on_top, only}
use Rattle.ref_start.specs.declared.entries.Handing.{Handing}
use Rattle.ref_start.specs.Begin.{main_entry, begin}

-- what an entry is given: new objects outside, all that was handed over up to there, and its arguments
pub record Given : Type 0 where
  pub fresh : List Instance
  pub handed : List (TypeId × Cell)
  pub arguments : List Value

-- what was handed over under a type
abbrev pub handed_as : Table → Ctype → List (TypeId × Cell) → List Cell
handed_as table t handed = map (λ e. e.1) (filter (λ e. same_type (type_of table e.0.0) t) handed)

-- a new object outside: one element of a type, or 64 bytes without a type
abbrev pub bytes_outside : Option TypeId → ℕ
bytes_outside None = 64
bytes_outside (Some to) = 0

abbrev pub outside_object : Option TypeId → Instance
outside_object ty =
    record { key = Outside; live = true; ty = ty; bytes = bytes_outside ty; zero = true; cells = [] }

-- one argument more
abbrev pub with_argument : Given → Cell → Given
with_argument given cell = record given { arguments = given.arguments ++ one_cell cell ∷ [] }

-- and a new object, of that number, to whose start it points: this is handed over under the argument's type
abbrev pub with_object : ℕ → TypeId → Option TypeId → Given → Given
with_object number ty to given = record {
  fresh = given.fresh ++ outside_object to ∷ [];
  handed = given.handed ++ (ty, start_of number) ∷ [];
  arguments = given.arguments ++ one_cell (start_of number) ∷ [];
}

-- there are no new functions: a pointer to one is null
abbrev pub with_new : Table → ℕ → TypeId → Ctype → Given → Given
with_new table number ty (FunctionFrom result parameters form) given = with_argument given Null
with_new table number ty to given =
    with_object number ty (complete_only table (pointee (slice_get table.terms ty.0))) given

-- a pointer by a choice: null, a new one, or one of those that were handed over under its type
abbrev pub with_pointer : Table → ℕ → TypeId → Ctype → List Cell → ℕ → Given → Given
with_pointer table number ty to cells zero given = with_argument given Null
with_pointer table number ty to cells (suc zero) given = with_new table number ty to given
with_pointer table number ty to cells (suc (suc k)) given = with_argument given (get_or cells k Null)

-- an argument of a type, by the number h, in a memory of so many instances: a pointer that h chooses, else h as a
-- number of the type
abbrev pub given_as : Table → ℕ → ℕ → TypeId → Ctype → Given → Given
given_as table count h ty (PointerTo to) given =
    with_pointer table (count + length given.fresh) ty to (handed_as table (PointerTo to) given.handed)
    (h % (length (handed_as table (PointerTo to) given.handed) + 2)) given
given_as table count h ty t given = with_argument given (Number (converted t (pos h)))

abbrev pub given_under : Table → ℕ → ℕ → Option TypeId → Given → Given
given_under table count h None given = given
given_under table count h (Some ty) given = given_as table count h ty (type_of table ty.0) given

-- the argument of one parameter, and those of all, by one number h
abbrev pub given_one : CoreTrees → ℕ → ℕ → Given → ObjectKey → Given
given_one u count h given key = given_under u.types count h (key_id u key) given

abbrev pub given_all : CoreTrees → ℕ → ℕ → Given → List ObjectKey → Given
given_all u count h given [] = given
given_all u count h given (key ∷ keys) = given_all u count h (given_one u count h given key) keys

-- what the entry of that number is given
abbrev pub given_to : Running → State → ℕ → ℕ → Given
given_to w state e h =
    given_all w.trees (length state.memory) h (record { fresh = []; handed = state.handed; arguments = [] })
    (parameters_of w.trees (view_of w.space) e)

-- the new objects are there, and what was handed over is known
abbrev pub with_given : State → Given → State
with_given state given = record state { memory = state.memory ++ given.fresh; handed = given.handed }

-- a function is entered with what it is given, whose pointers its parameters hold
abbrev pub entered_given : Running → State → ℕ → Given → Result State Reason
entered_given w state e given =
    entered w (length state.memory + length given.fresh) (main_entry e) given.arguments >>= λ made.
    Ok (on_top (with_given state given) state.frames (only made.stores) made)

abbrev pub enters_entry : Running → State → ℕ → ℕ → Result State Reason
enters_entry w state e h = entered_given w state e (given_to w state e h)

-- the program ends, with the status 0
abbrev pub ends : State → State
ends state = record (finished state (pos 0) false) { notes = only [] }

abbrev pub enters_or_ends : Running → State → ℕ → Option ℕ → Result State Reason
enters_or_ends w state h None = Ok (ends state)
enters_or_ends w state h (Some e) = enters_entry w state e h

-- one of these entries is entered, or the program ends, as the word says
abbrev pub enters_one : Running → State → List ℕ → ℕ → Result State Reason
enters_one w state entries word =
    enters_or_ends w state (word / (length entries + 1)) (slice_get entries (word % (length entries + 1)))

abbrev pub starts_by : Running → State → ℕ → List ℕ → Result State Reason
starts_by w state word [] = begin w state word
starts_by w state word (e ∷ entries) = enters_one w state (e ∷ entries) word

-- a step without a frame, of a program that isn't at its end: it begins at main, or one of its entries is entered
unfoldable pub starts : Running → State → ℕ → Result State Reason
starts w state word = starts_by w state word w.entries

-- what an entry is given, where the code keeps what the step itself hands over behind what was there
abbrev pub given_with : List (TypeId × Cell) → Handing → Given
given_with handed made =
    record { fresh = made.fresh; handed = handed ++ made.handed; arguments = made.arguments }
