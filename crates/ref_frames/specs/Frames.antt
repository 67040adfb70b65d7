-- Functions are entered and left, and the program ends (C11 5.1.2.2.3, 6.9.1p10).
use Rattle.std.specs.Prelude.{ℕ, ◌+◌, ◌&&◌, ℤ, pos, Bool, true, false, if◌then◌else◌, List, [], ◌∷◌, ◌++◌, Option}
use Rattle.std.specs.Prelude.{Some, None, Result, Ok, Err, length, drop, slice_get}
use Rattle.std.specs.List.{range_with_len}
use Rattle.c_types.specs.declared.key.ObjectKey.{ObjectKey}
use Rattle.c_types.specs.declared.key.ObjectKey.TheVariants.{Entity as EntityKey, Varargs as VarargsKey}
use Rattle.row_numbers.specs.Setting.{takes_further}
use Rattle.ref_mem.specs.Arguments.{arguments_object}
use Rattle.c_types.specs.declared.term.TypeId.{TypeId}
use Rattle.c_types.specs.declared.term.Term.{Term}
use Rattle.c_types.specs.declared.term.Term.TheVariants.{Function as FunctionTerm}
use Rattle.c_types.specs.Trees.{Ctype, IntegerType, FunctionFrom, Ctypes, NoTypes, MoreTypes}
use Rattle.c_types.specs.Table.{Table, type_of}
use Rattle.core_tree.specs.declared.node.Entity.{Entity}
use Rattle.core_tree.specs.Typed.{CoreTrees}
use Rattle.obj_space.specs.View.{view_of}
use Rattle.row_numbers.specs.declared.functions.Role.TheVariants.{Main}
use Rattle.row_numbers.specs.Functions.{plays, entity_in, key_id, parameters_of}
use Rattle.call_sites.specs.Signatures.{called_type}
use Rattle.ref_cells.specs.declared.cells.Reason.{Reason}
use Rattle.ref_cells.specs.declared.cells.Reason.TheVariants.{Mismatch}
use Rattle.ref_cells.specs.declared.cells.Cell.{Cell}
use Rattle.ref_cells.specs.declared.cells.Cell.TheVariants.{Number, Pointer, Function}
use Rattle.ref_cells.specs.declared.cells.Value.{Value}
use Rattle.ref_cells.specs.declared.instance.Instance.{Instance}
use Rattle.ref_cells.specs.Cells.{CellList}
use Rattle.ref_cells.specs.Numbers.{converted}
use Rattle.ref_mem.specs.Reads.{one_cell}
use Rattle.ref_elements.specs.Types.{same_type}
use Rattle.ref_elements.specs.Outcomes.{pointers_in}
use Rattle.ref_state.specs.declared.items.Item.TheVariants.{Do}
use Rattle.ref_state.specs.declared.frames.Frame.{Frame}
use Rattle.ref_state.specs.declared.state.State.{State}
use Rattle.ref_state.specs.Values.{cell_of}
use Rattle.ref_state.specs.Items.{settled}
use Rattle.ref_state.specs.Changes.{ended_all}
use Rattle.ref_frames.specs.declared.entering.Entry.{Entry}
use Rattle.ref_frames.specs.declared.entering.Activation.{Activation}
use Rattle.ref_frames.specs.Running.{Running}

-- an object of a parameter that holds its argument
abbrev pub parameter_object : CoreTrees → ObjectKey → Value → Instance
parameter_object u key value =
    record { key = key; live = true; ty = key_id u key; bytes = 0; zero = false; cells = value.cells }

-- those of a list of parameters
abbrev pub parameter_objects : CoreTrees → List ObjectKey → List Value → List Instance
parameter_objects u (key ∷ keys) (value ∷ values) = parameter_object u key value ∷ parameter_objects u keys values
parameter_objects u keys values = []

-- and the object of what a variadic function is passed past them
abbrev pub further_objects : Ctype → ℕ → List Value → List Instance
further_objects t function arguments =
    if takes_further t then arguments_object (VarargsKey function) arguments ∷ [] else []

abbrev pub entered_objects : CoreTrees → Ctype → ℕ → List ObjectKey → List Value → List Instance
entered_objects u t function parameters arguments =
    parameter_objects u parameters arguments ++ further_objects t function (drop (length parameters) arguments)

-- the pointers that instances hold, the first of them of that number
abbrev pub pointers_from : ℕ → List Instance → List (Cell × Cell)
pointers_from i [] = []
pointers_from i (inst ∷ rest) = pointers_in i inst.cells ++ pointers_from (i + 1) rest

-- the frame of a function over its body
abbrev pub frame_over : Entry → ℕ → ℕ → List Instance → Frame
frame_over entry count body fresh = record {
  function = EntityKey entry.function;
  call = entry.call;
  by = entry.by;
  instances = range_with_len count (length fresh);
  items = Do body ∷ [];
}

abbrev pub activation : Entry → ℕ → ℕ → List Instance → Activation
activation entry count body fresh =
    record { frame = frame_over entry count body fresh; fresh = fresh; stores = pointers_from count fresh }

-- the list of a function's type
abbrev pub list_of : Ctype → Ctypes
list_of (FunctionFrom result parameters form) = parameters
list_of t = NoTypes

abbrev pub is_typed : Table → Option TypeId → Ctype → Bool
is_typed table None t = false
is_typed table (Some id) t = same_type (type_of table id.0) t

-- objects have the types of a list, one for one
abbrev pub have_types : CoreTrees → List ObjectKey → Ctypes → Bool
have_types u [] NoTypes = true
have_types u (key ∷ keys) (MoreTypes t types) = is_typed u.types (key_id u key) t && have_types u keys types
have_types u keys types = false

-- the list of the type by which a function is called
abbrev pub called_list : CoreTrees → Entity → Ctypes
called_list u entity = list_of (called_type (type_of u.types entity.ty.0))

-- a function whose parameters don't have the types of its own list isn't entered
abbrev pub activation_over : Running → ℕ → Entry → List Value → Ctype → List ObjectKey → ℕ → Result Activation Reason
activation_over w count entry arguments t parameters body =
    if have_types w.trees parameters (list_of (called_type t))
    then Ok (activation entry count body (entered_objects w.trees t entry.function parameters arguments))
    else Err Mismatch

abbrev pub activation_by : Running → ℕ → Entry → List Value → Ctype → Option ℕ → Result Activation Reason
activation_by w count entry arguments t None = Err Mismatch
activation_by w count entry arguments t (Some body) =
    activation_over w count entry arguments t (parameters_of w.trees (view_of w.space) entry.function) body

abbrev pub activation_of : Running → ℕ → Entry → List Value → Option Entity → Result Activation Reason
activation_of w count entry arguments None = Err Mismatch
activation_of w count entry arguments (Some entity) =
    activation_by w count entry arguments (type_of w.trees.types entity.ty.0) entity.body

-- a function that is entered with these arguments, in a memory of so many instances
unfoldable pub entered : Running → ℕ → Entry → List Value → Result Activation Reason
entered w count entry arguments = activation_of w count entry arguments (slice_get w.trees.entities entry.function)

abbrev pub is_main_in : Option Entity → Bool
is_main_in None = false
is_main_in (Some entity) = plays Main entity

abbrev pub is_empty : CellList → Bool
is_empty [] = true
is_empty (e ∷ rest) = false

-- what a call gets where a function is left: 0 from main that ends without a value
abbrev pub given_by : CoreTrees → ObjectKey → Value → Value
given_by u function value =
    if is_empty value.cells
    then (if is_main_in (entity_in u function) then one_cell (Number (pos 0)) else value) else value

-- the value of a call goes to the item below it
abbrev pub caller_given : ℕ → Value → List Frame → List Frame
caller_given n value [] = []
caller_given n value (f ∷ rest) = record f { items = settled n value f.items } ∷ rest

abbrev pub status_by : Cell → ℤ
status_by (Number n) = converted (IntegerType 4 4 true) n
status_by cell = pos 0

abbrev pub all_ended : List Instance → List Frame → List Instance
all_ended memory [] = memory
all_ended memory (f ∷ rest) = all_ended (ended_all memory f.instances) rest

abbrev pub kept_after : Bool → List (ObjectKey × ℕ) → List (ObjectKey × ℕ)
kept_after true kept = []
kept_after false kept = kept

-- the program ends with a status: every frame is left
abbrev pub finished : State → ℤ → Bool → State
finished state status at_once = record state {
  memory = all_ended state.memory state.frames;
  frames = [];
  kept = kept_after at_once state.kept;
  status = Some status;
}

-- the type of what a function of a type gives
abbrev pub result_in : Option Term → Option TypeId
result_in (Some (FunctionTerm result parameters form)) = Some result
result_in term = None

abbrev pub result_of : CoreTrees → Option Entity → Option TypeId
result_of u None = None
result_of u (Some entity) = result_in (slice_get u.types.terms entity.ty.0)

-- a pointer that isn't null is handed over, with its type
abbrev pub handed_over : List (TypeId × Cell) → Option TypeId → Cell → List (TypeId × Cell)
handed_over handed (Some id) (Pointer i path past) = handed ++ (id, Pointer i path past) ∷ []
handed_over handed (Some id) (Function key) = handed ++ (id, Function key) ∷ []
handed_over handed ty cell = handed

-- a function that the start entered is left: at `main` the program ends, and an entry hands over a pointer that it
-- gives
abbrev pub left_start : CoreTrees → List ℕ → State → Frame → List Frame → Value → State
left_start u [] state f rest value = finished state (status_by (cell_of value)) false
left_start u entries state f rest value =
    record state {
      memory = ended_all state.memory f.instances;
      frames = rest;
      handed = handed_over state.handed (result_of u (entity_in u f.function)) (cell_of value);
    }

abbrev pub left_with : CoreTrees → List ℕ → State → Frame → List Frame → Value → Option ℕ → Option ℕ → State
left_with u entries state f rest value (Some n) by =
    record state {
      memory = ended_all state.memory f.instances;
      frames = caller_given n (given_by u f.function value) rest;
    }
left_with u entries state f rest value None (Some k) =
    record state { memory = ended_all state.memory f.instances; frames = rest }
left_with u entries state f rest value None None = left_start u entries state f rest value

-- the top frame is left with a value, in a program that has these entries
abbrev pub left_frame : CoreTrees → List ℕ → State → Frame → List Frame → Value → State
left_frame u entries state f rest value = left_with u entries state f rest value f.call f.by
