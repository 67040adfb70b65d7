-- The next one of a list (C11 7.16.1.1).
use Rattle.std.specs.Prelude.{◌≡◌, ℕ, ◌+◌, ◌==◌, nat_le, Bool, true, false, if◌then◌else◌, List, [], ◌∷◌, Option}
use Rattle.std.specs.Prelude.{Some, None, Result, Ok, Err, drop, length, slice_get}
use Rattle.std.specs.List.{list_any}
use Rattle.c_types.specs.declared.key.ObjectKey.{ObjectKey}
use Rattle.c_types.specs.declared.key.ObjectKey.TheVariants.{Varargs as VarargsKey}
use Rattle.c_types.specs.declared.term.PathStep.TheVariants.{Index}
use Rattle.c_types.specs.Trees.{Ctype, PointerTo}
use Rattle.c_types.specs.Table.{Table, type_of}
use Rattle.core_tree.specs.declared.node.Node.{Node}
use Rattle.core_tree.specs.declared.node.NodeKind.{NodeKind}
use Rattle.core_tree.specs.declared.node.NodeKind.TheVariants.{NextArg}
use Rattle.core_tree.specs.declared.node.Entity.{Entity}
use Rattle.core_tree.specs.Typed.{CoreTrees, type_at}
use Rattle.obj_space.specs.View.{view_of}
use Rattle.row_numbers.specs.Functions.{parameters_of}
use Rattle.ref_cells.specs.declared.cells.Reason.{Reason}
use Rattle.ref_cells.specs.declared.cells.Reason.TheVariants.{NullUse, OutOfRange, Mismatch}
use Rattle.ref_cells.specs.declared.cells.Cell.{Cell}
use Rattle.ref_cells.specs.declared.cells.Cell.TheVariants.{Null, Pointer, Function}
use Rattle.ref_cells.specs.declared.cells.Value.{Value}
use Rattle.ref_cells.specs.declared.instance.Instance.{Instance}
use Rattle.ref_cells.specs.Cells.{CellList, under}
use Rattle.ref_cells.specs.Places.{is_alike}
use Rattle.ref_mem.specs.Reads.{read, one_cell, scalar_value}
use Rattle.ref_mem.specs.Writes.{write}
use Rattle.ref_elements.specs.Runs.{◌>>=◌, live_at}
use Rattle.ref_elements.specs.Outcomes.{Effect, stores_and_gives}
use Rattle.ref_state.specs.declared.frames.Frame.{Frame}
use Rattle.ref_state.specs.declared.state.State.{State}
use Rattle.ref_state.specs.Values.{cell_in, cell_of, first_cell}
use Rattle.ref_state.specs.Items.{settled}
use Rattle.ref_values.specs.Memory.{stores_at}
use Rattle.ref_frames.specs.Running.{Running}
use Rattle.ref_frames.specs.OnTop.{only}
use Rattle.ref_calls.specs.declared.lists.Taken.{Taken}

-- a number stands in a list
abbrev pub has : ℕ → List ℕ → Bool
has i list = list_any (λ j. j == i) list

-- the call of the activation that made an instance, of these, the top one first
abbrev pub call_over : ℕ → List Frame → Option ℕ
call_over i [] = None
call_over i (f ∷ rest) = if has i f.instances then f.call else call_over i rest

-- the k-th child behind the first ones
abbrev pub child_of : Option Node → ℕ → ℕ → Option ℕ
child_of None first k = None
child_of (Some node) first k = slice_get (drop first node.children) k

abbrev pub call_child : List Node → Option ℕ → ℕ → ℕ → Option ℕ
call_child nodes None first k = None
call_child nodes (Some n) first k = child_of (slice_get nodes n) first k

abbrev pub node_of : Running → List Frame → ℕ → ℕ → ℕ → Option Entity → Option ℕ
node_of w frames i k e None = None
node_of w frames i k e (Some entity) =
    call_child w.trees.nodes (call_over i frames) (length (parameters_of w.trees (view_of w.space) e) + 1) k

-- the node of the k-th argument that a function was passed past its parameters, by the instance of these arguments
abbrev pub argument_node : Running → List Frame → ℕ → ℕ → ObjectKey → Option ℕ
argument_node w frames i k (VarargsKey e) = node_of w frames i k e (slice_get w.trees.entities e)
argument_node w frames i k key = None

-- it has a type like that
abbrev pub is_argument : CoreTrees → Ctype → Option ℕ → Bool
is_argument u t None = false
is_argument u t (Some v) = is_alike (type_at u v) t

-- a cell as a value of a type; only a pointer's points
abbrev pub points : Ctype → Bool
points (PointerTo to) = true
points t = false

abbrev pub held_value : Ctype → Cell → Result Value Reason
held_value t (Pointer i path past) = if points t then Ok (one_cell (Pointer i path past)) else Err Mismatch
held_value t (Function key) = if points t then Ok (one_cell (Function key)) else Err Mismatch
held_value t cell = scalar_value t cell

-- the k-th argument as a value of a type
abbrev pub argument_value : Ctype → CellList → Bool → Result Value Reason
argument_value t cells false = Err Mismatch
argument_value t cells true = held_value t (first_cell cells)

abbrev pub argument_at : Running → List Frame → ℕ → ℕ → Ctype → Instance → Result Value Reason
argument_at w frames i k t inst =
    if nat_le inst.bytes k then Err OutOfRange
    else argument_value t (under (Index k) inst.cells) (is_argument w.trees t (argument_node w frames i k inst.key))

-- a list from the k-th argument on
abbrev pub list_from : ℕ → ℕ → Value
list_from i k = one_cell (Pointer i (Index k ∷ []) false)

abbrev pub taken_by : Running → List Instance → List Frame → Cell → Ctype → Cell → Result Taken Reason
taken_by w memory frames place t (Pointer i (Index k ∷ []) false) =
    live_at (slice_get memory i) >>= λ inst.
    argument_at w frames i k t inst >>= λ value.
    Ok (record { place = place; list = list_from i (k + 1); value = value })
taken_by w memory frames place t Null = Err NullUse
taken_by w memory frames place t cell = Err Mismatch

-- the instance and the index that the code finds in a list
abbrev pub IsIndexOf : Cell → Result (ℕ × ℕ) Reason → Type 0
IsIndexOf cell (Ok at) = cell ≡ Pointer at.0 (Index at.1 ∷ []) false
IsIndexOf cell (Err reason) =
    (w : Running) (memory : List Instance) (frames : List Frame) (place : Cell) (t : Ctype)
    → taken_by w memory frames place t cell ≡ Err reason

-- what the list at a place, of type s, gives as a value of type t, and the list behind it
abbrev pub taken : Running → List Instance → List Frame → Cell → Ctype → Ctype → Result Taken Reason
taken w memory frames place s t =
    read w.trees.types memory place s >>= λ list. taken_by w memory frames place t (cell_of list)

-- the place has the list behind it then
abbrev pub put_back : Table → List Instance → Ctype → Taken → Effect
put_back table memory s next =
    write table memory next.place s next.list >>= λ after.
    stores_and_gives after next.value (stores_at next.place next.list.cells)

abbrev pub taken_over : Running → List Instance → List Frame → Ctype → List ℕ → List (ℕ × Value) → Effect
taken_over w memory frames t (p ∷ []) values =
    taken w memory frames (cell_in values p) (type_at w.trees p) t >>= λ next.
    put_back w.trees.types memory (type_at w.trees p) next
taken_over w memory frames t children values = Err Mismatch

abbrev pub taken_at : Running → List Instance → List Frame → Option Node → List (ℕ × Value) → Effect
taken_at w memory frames None values = Err Mismatch
taken_at w memory frames (Some node) values =
    taken_over w memory frames (type_of w.trees.types node.ty.0) node.children values

-- an effect whose value goes to the item below the top one of frame f
abbrev pub settled_by : State → Frame → List Frame → ℕ → Effect → Result State Reason
settled_by state f rest n effect =
    effect >>= λ e.
    Ok (record state {
      memory = e.memory;
      frames = record f { items = settled n e.outcome.value f.items } ∷ rest;
      notes = only e.outcome.stores;
    })

-- NextArg, whose operand is there, on top of frame f
unfoldable pub next_row : Running → State → Frame → List Frame → ℕ → List (ℕ × Value) → Result State Reason
next_row w state f rest n values =
    settled_by state f rest n (taken_at w state.memory (f ∷ rest) (slice_get w.trees.nodes n) values)

abbrev pub is_next : NodeKind → Bool
is_next NextArg = true
is_next kind = false
