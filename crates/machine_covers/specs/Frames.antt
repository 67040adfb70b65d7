-- What frames and their items hold, kept functions and notes, as the code decides it.
use Rattle.std.specs.Prelude.{◌≡◌, ◌⊎◌, ℕ, ◌<◌, ⊤, false, List, Option, Some, None, All, length, map, take, count_by}
use Rattle.std.specs.Prelude.{slice_get}
use Rattle.std.specs.Option.{is_some}
use Rattle.c_types.specs.declared.key.ObjectKey.{ObjectKey}
use Rattle.c_types.specs.declared.key.ObjectKey.TheVariants.{Entity as EntityKey, Function as FunctionKey}
use Rattle.c_types.specs.declared.term.PathStep.{PathStep}
use Rattle.c_types.specs.declared.term.TypeId.{TypeId}
use Rattle.c_types.specs.Trees.{Ctype}
use Rattle.type_rules.specs.Conversions.{result_of}
use Rattle.core_tree.specs.declared.node.Node.{Node}
use Rattle.core_tree.specs.Typed.{CoreTrees, sort_at}
use Rattle.sol_model.specs.declared.system.System.{System}
use Rattle.sol_model.specs.declared.system.Function.{Function}
use Rattle.obj_space.specs.declared.location.Location.{Location}
use Rattle.obj_space.specs.Spots.{reached}
use Rattle.obj_space.specs.View.{first_from, view_of}
use Rattle.row_numbers.specs.Kept.{nodes_of, kept_count, kept_row}
use Rattle.row_numbers.specs.Functions.{key_type}
use Rattle.row_numbers.specs.Setting.{result_nodes, start_at, widths}
use Rattle.call_sites.specs.Calls.{rest_of}
use Rattle.ref_cells.specs.declared.cells.Cell.{Cell}
use Rattle.ref_cells.specs.declared.cells.Cell.TheVariants.{Pointer}
use Rattle.ref_cells.specs.declared.cells.Value.{Value}
use Rattle.ref_cells.specs.declared.instance.Instance.{Instance}
use Rattle.ref_cells.specs.Cells.{Entry}
use Rattle.ref_cells.specs.Wholes.{whole_of}
use Rattle.ref_state.specs.declared.items.Item.{Item}
use Rattle.ref_state.specs.declared.items.Item.TheVariants.{Do, Wait, Library, Result}
use Rattle.ref_state.specs.declared.frames.Frame.{Frame}
use Rattle.ref_state.specs.declared.notes.Notes.{Notes}
use Rattle.covering_laws.specs.covered_memory.Spots.{room, IsInTree}
use Rattle.covering_laws.specs.covered_memory.Covered.{Sets, outside_row}
use Rattle.covering_laws.specs.covered_library.Calls.{place_row}
use Rattle.row_covers.specs.Cells.{CellBy, AreIn}
use Rattle.row_covers.specs.Scene.{Sight, sets_at}
use Rattle.row_covers.specs.Targets.{call_number, function_in, TargetBy, GraphBy, BackBy}
use Rattle.row_covers.specs.Values.{HeldBy, HasBy}

-- how many functions stand before a location
abbrev pub numbered : System → Option ℕ → ℕ
numbered system None = 0
numbered system (Some l) = count_by (λ fact. is_some fact.function) (take l system.locations)

abbrev pub width_in : CoreTrees → Option Location → ℕ
width_in u None = 0
width_in u (Some x) = kept_count (result_nodes u x.key)

-- how many rows the result of a function has
abbrev pub width_of : CoreTrees → List Location → Function → ℕ
width_of u space function = width_in u (slice_get space function.location)

abbrev pub width_at : CoreTrees → List Location → Option Function → ℕ
width_at u space None = 0
width_at u space (Some function) = width_of u space function

-- the first row of the result of the function of that number
abbrev pub result_start : CoreTrees → List Location → System → ℕ → ℕ
result_start u space system number =
    start_at (start_at (length space) (widths u) (length u.nodes)) (map (width_of u space) system.functions) number

-- what the function of a key gives
abbrev pub given_by : CoreTrees → ObjectKey → Ctype
given_by u key = result_of (key_type u key)

-- the first location of an object, and the number of the function that it is
abbrev pub first_of : Sight → ObjectKey → Option ℕ
first_of scene key = first_from 0 scene.space key

abbrev pub function_of : Sight → ObjectKey → Option ℕ
function_of scene key = function_in scene.system (first_of scene key)

-- a value is in the rows of a function's result
abbrev pub GivenBy : Sight → List Instance → ObjectKey → Value → Type 0
GivenBy scene memory key v =
    let u = scene.trees in
    let start = result_start u scene.space scene.system (numbered scene.system (first_of scene key)) in
    AreIn (sets_at scene) memory (λ node. kept_row start (nodes_of u.types (given_by u key)) node)
    (Some (reached (given_by u key) 0 false))
    v.cells

abbrev pub ReturnedBy : Sight → List Instance → ObjectKey → Value → Type 0
ReturnedBy scene memory (EntityKey f) v = GivenBy scene memory (EntityKey f) v
ReturnedBy scene memory key v = ⊥

-- a node has a value
abbrev pub ValueBy : Sight → List Instance → ℕ × Value → Type 0
ValueBy scene memory entry =
    let u = scene.trees in
    HasBy (sets_at scene) u (view_of scene.space) memory (sort_at u entry.0) entry.0 entry.1

-- an argument stands in the rows of its node
unfoldable pub ArgumentBy : Sight → List Instance → ℕ × Value → Type 0
ArgumentBy scene memory entry =
    let u = scene.trees in
    (entry.0 < length u.nodes) × HeldBy (sets_at scene) u (view_of scene.space) memory entry.0 entry.1

abbrev pub ArgumentOf : Sight → List Instance → Option ℕ → Option Value → Type 0
ArgumentOf scene memory (Some n) (Some v) = ArgumentBy scene memory (n, v)
ArgumentOf scene memory n v = ⊥

-- the argument in that place, at the node in that place
unfoldable pub ArgumentAt : Sight → List Instance → List ℕ → List Value → ℕ → Type 0
ArgumentAt scene memory nodes values k = ArgumentOf scene memory (slice_get nodes k) (slice_get values k)

unfoldable pub ArgumentsBy : Sight → List Instance → List ℕ → List Value → Type 0
ArgumentsBy scene memory nodes values = (k : ℕ) → k < length values → ArgumentAt scene memory nodes values k

-- a function is a target of the call at a node
abbrev pub TargetAt : Sight → ℕ → ObjectKey → Type 0
TargetAt scene n key =
    TargetBy scene.system (scene.family) (call_number scene.trees.nodes n) (function_of scene key)

-- a function stands in the call graph under a function of the library
abbrev pub GraphAt : Sight → ℕ → ObjectKey → Type 0
GraphAt scene library key =
    GraphBy scene.system (scene.family) (function_of scene (FunctionKey library)) (function_of scene key)

-- a target of the call at a node calls a function back
abbrev pub BackAt : Sight → ℕ → ObjectKey → Type 0
BackAt scene n key =
    BackBy scene.system (scene.family) (call_number scene.trees.nodes n) (function_of scene key)

abbrev pub PendingAt : Sight → List Instance → ℕ → ℕ → List Value → Option Node → Type 0
PendingAt scene memory n function arguments None = ⊥
PendingAt scene memory n function arguments (Some node) =
    TargetAt scene n (FunctionKey function) × ArgumentsBy scene memory (rest_of node.children) arguments

-- an instance is there, and a path in its tree
abbrev pub ThereBy : Sets → List PathStep → Option Instance → Type 0
ThereBy g path None = ⊥
ThereBy g path (Some inst) = IsInTree g.table (whole_of g.table inst) (room inst) path

abbrev pub ExistsBy : Sets → List Instance → Cell → Type 0
ExistsBy g memory (Pointer i path past) = ThereBy g path (slice_get memory i)
ExistsBy g memory cell = ⊤

abbrev pub EntryExists : Sets → List Instance → Entry → Type 0
EntryExists g memory entry = ExistsBy g memory entry.1

abbrev pub ValueExists : Sets → List Instance → Value → Type 0
ValueExists g memory v = All (λ entry. EntryExists g memory entry) v.cells

abbrev pub PendingBackBy : Sight → List Instance → ℕ → ℕ → List Value → Type 0
PendingBackBy scene memory n function arguments =
    BackAt scene n (FunctionKey function) × All (λ v. ValueExists (sets_at scene) memory v) arguments

-- a library function waits for its call, or a target of the call calls it back
abbrev pub LibraryBy : Sight → List Instance → ℕ → ℕ → List Value → Type 0
LibraryBy scene memory n function arguments =
    PendingAt scene memory n function arguments (slice_get scene.trees.nodes n)
    ⊎ PendingBackBy scene memory n function arguments

abbrev pub ItemBy : Sight → List Instance → ObjectKey → Item → Type 0
ItemBy scene memory key (Do n) = ⊤
ItemBy scene memory key (Wait n left values) = All (λ entry. ValueBy scene memory entry) values
ItemBy scene memory key (Library n function arguments) = LibraryBy scene memory n function arguments
ItemBy scene memory key (Result v) = ReturnedBy scene memory key v

abbrev pub CalledBy : Sight → ObjectKey → Option ℕ → Type 0
CalledBy scene key None = ⊤
CalledBy scene key (Some n) = TargetAt scene n key

abbrev pub UnderBy : Sight → ObjectKey → Option ℕ → Type 0
UnderBy scene key None = ⊤
UnderBy scene key (Some library) = GraphAt scene library key

-- the item at a place, where there is one
abbrev pub ItemAt : Sight → List Instance → ObjectKey → Option Item → Type 0
ItemAt scene memory key None = ⊤
ItemAt scene memory key (Some item) = ItemBy scene memory key item

abbrev pub FrameBy : Sight → List Instance → Frame → Type 0
FrameBy scene memory f =
    CalledBy scene f.function f.call × UnderBy scene f.function f.by
    × All (λ item. ItemBy scene memory f.function item) f.items

-- a function that is called at the end stands under atexit, the function of number 24 of the library
abbrev pub EndBy : Sight → ObjectKey → Option Function → Type 0
EndBy scene key None = ⊤
EndBy scene key (Some function) = (function.signature ≡ 1 → ⊥) ⊎ GraphAt scene 24 key

abbrev pub EndAt : Sight → ObjectKey → Option ℕ → Type 0
EndAt scene key None = ⊤
EndAt scene key (Some number) = EndBy scene key (slice_get scene.system.functions number)

abbrev pub KeptBy : Sight → ObjectKey × ℕ → Type 0
KeptBy scene entry = TargetAt scene entry.1 (FunctionKey 24) × EndAt scene entry.0 (function_of scene entry.0)

-- a pointer that was put into a cell is in the row of its place
abbrev pub StoreBy : Sight → List Instance → Cell × Cell → Type 0
StoreBy scene memory store = CellBy (sets_at scene) memory (place_row (sets_at scene) memory store.0) store.1

abbrev pub NotedBy : Sight → Option (ℕ × ObjectKey) → Type 0
NotedBy scene None = ⊤
NotedBy scene (Some note) = TargetAt scene note.0 note.1

unfoldable pub NotesBy : Sight → List Instance → Notes → Type 0
NotesBy scene memory notes =
    NotedBy scene notes.target × All (λ store. StoreBy scene memory store) notes.stores

-- what was handed over is in the row of what lies outside
unfoldable pub HandedAll : Sight → List Instance → List (TypeId × Cell) → Type 0
HandedAll scene memory handed =
    All (λ entry. CellBy (sets_at scene) memory (outside_row (sets_at scene)) entry.1) handed

-- each frame, and each kept function
unfoldable pub FramesBy : Sight → List Instance → List Frame → Type 0
FramesBy scene memory frames = All (λ f. FrameBy scene memory f) frames

unfoldable pub KeptAll : Sight → List (ObjectKey × ℕ) → Type 0
KeptAll scene kept = All (λ entry. KeptBy scene entry) kept
