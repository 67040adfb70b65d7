-- One step of the machine.
use Rattle.std.specs.Prelude.{ℕ, ◌==◌, ◌||◌, ◌&&◌, nat_le, Bool, true, false, if◌then◌else◌, ℤ, List}
use Rattle.std.specs.Prelude.{[], ◌∷◌, Option, Some, None, Result, Ok, Err, length, slice_get}
use Rattle.std.specs.Option.{is_some}
use Rattle.c_types.specs.declared.key.ObjectKey.{ObjectKey}
use Rattle.c_types.specs.declared.key.ObjectKey.TheVariants.{Entity as EntityKey, Function as FunctionKey}
use Rattle.c_types.specs.Trees.{Ctype, PointerTo, IntegerType}
use Rattle.c_types.specs.Table.{type_of}
use Rattle.core_tree.specs.declared.node.Node.{Node}
use Rattle.core_tree.specs.declared.node.NodeKind.{NodeKind}
use Rattle.core_tree.specs.declared.node.NodeKind.TheVariants.{Convert}
use Rattle.core_tree.specs.Typed.{CoreTrees, type_at}
use Rattle.obj_space.specs.View.{view_of}
use Rattle.row_numbers.specs.Functions.{parameters_of}
use Rattle.call_sites.specs.Calls.{is_call, named_callee}
use Rattle.ref_cells.specs.declared.cells.Reason.{Reason}
use Rattle.ref_cells.specs.declared.cells.Reason.TheVariants.{BadCall}
use Rattle.ref_cells.specs.declared.cells.Cell.{Cell}
use Rattle.ref_cells.specs.declared.cells.Value.{Value}
use Rattle.ref_elements.specs.Runs.{◌>>=◌}
use Rattle.ref_state.specs.declared.items.Item.{Item}
use Rattle.ref_state.specs.declared.items.Item.TheVariants.{Do, Wait, Library, Result as Returned}
use Rattle.ref_state.specs.declared.frames.Frame.{Frame}
use Rattle.ref_state.specs.declared.notes.Notes.{Notes}
use Rattle.ref_state.specs.declared.state.State.{State}
use Rattle.ref_state.specs.Values.{no_value}
use Rattle.ref_state.specs.Items.{replaced}
use Rattle.ref_statements.specs.Forms.{form_of}
use Rattle.ref_statements.specs.Rows.{Row}
use Rattle.ref_statements.specs.Nodes.{do_row, wait_row, picks}
use Rattle.ref_frames.specs.Running.{Running}
use Rattle.ref_frames.specs.Frames.{entered, left_frame}
use Rattle.ref_frames.specs.OnTop.{only, on_top}
use Rattle.ref_calls.specs.Reached.{reached}
use Rattle.ref_calls.specs.Library.{library_row}
use Rattle.ref_calls.specs.Lists.{is_next, next_row}
use Rattle.ref_calls.specs.Outcomes.{Outcome, Goes, outcome}
use Rattle.ref_calls.specs.Ending.{end_step, last_of}
use Rattle.ref_start.specs.Begin.{main_of}
use Rattle.ref_start.specs.Entries.{starts}

-- the items of the top frame
abbrev pub top_items : List Frame → List Item
top_items [] = []
top_items (f ∷ rest) = f.items

-- what a row leaves of the top frame, in the state
abbrev pub placed : State → List Frame → Row → Result State Reason
placed state rest (Ok next) =
    Ok (record state { memory = next.memory; frames = next.frame ∷ rest; notes = only next.stores })
placed state rest (Err reason) = Err reason

abbrev pub is_direct : CoreTrees → Option Node → Bool
is_direct u None = false
is_direct u (Some node) = is_some (named_callee u node)

-- the target of a call that isn't by a function's name
abbrev pub target_of : Bool → ℕ → ObjectKey → Option (ℕ × ObjectKey)
target_of true n key = None
target_of false n key = Some (n, key)

abbrev pub noted : CoreTrees → ℕ → ObjectKey → List (Cell × Cell) → Notes
noted u n key stores = record { target = target_of (is_direct u (slice_get u.nodes n)) n key; stores = stores }

abbrev pub called : Running → State → Frame → List Frame → ℕ → ObjectKey → List Value → Result State Reason
called w state f rest n (EntityKey e) arguments =
    entered w (length state.memory) (record { function = e; call = Some n; by = None }) arguments >>= λ made.
    Ok (on_top state (f ∷ rest) (noted w.trees n (EntityKey e) made.stores) made)
called w state f rest n (FunctionKey k) arguments =
    Ok (record state {
      frames = record f { items = replaced 1 (Library n k arguments ∷ []) f.items } ∷ rest;
      notes = noted w.trees n (FunctionKey k) [];
    })
called w state f rest n key arguments = Err BadCall

-- a call, all of whose operands are there: a defined function is entered, one of the library is pending
abbrev pub call_row : Running → State → Frame → List Frame → ℕ → List (ℕ × Value) → Result State Reason
call_row w state f rest n values =
    reached w.trees n values >>= λ target. called w state f rest n target.key target.arguments

abbrev pub is_call_at : Option Node → Bool
is_call_at None = false
is_call_at (Some node) = is_call node.kind

-- a call whose operands are all there
abbrev pub calls : CoreTrees → ℕ → List ℕ → Bool
calls u n [] = is_call_at (slice_get u.nodes n)
calls u n (c ∷ operands) = false

abbrev pub is_next_at : Option Node → Bool
is_next_at None = false
is_next_at (Some node) = is_next node.kind

-- a node that takes the next one of a list, whose operand is there
abbrev pub takes : CoreTrees → ℕ → List ℕ → Bool
takes u n [] = is_next_at (slice_get u.nodes n)
takes u n (c ∷ operands) = false

abbrev pub waited : Running
    → State
    → Frame
    → List Frame
    → ℕ
    → List ℕ
    → List (ℕ × Value)
    → ℕ
    → Result State Reason
waited w state f rest n operands values word =
    if calls w.trees n operands then call_row w state f rest n values
    else if takes w.trees n operands then next_row w state f rest n values
    else placed state rest (wait_row w.trees state.memory f n operands values word)

-- a frame that is left notes nothing
abbrev pub leaves : Running → State → Frame → List Frame → Value → State
leaves w state f rest value = record (left_frame w.trees w.entries state f rest value) { notes = only [] }

-- the top item of the top frame
abbrev pub item_step : Running → State → Frame → List Frame → List Item → ℕ → Outcome
item_step w state f rest [] word = Goes (leaves w state f rest no_value)
item_step w state f rest (Do n ∷ items) word = outcome n (placed state rest (do_row w.trees state.memory f n word))
item_step w state f rest (Wait n operands values ∷ items) word =
    outcome n (waited w state f rest n operands values word)
item_step w state f rest (Library n k arguments ∷ items) word =
    outcome n (library_row w state f rest n k arguments word)
item_step w state f rest (Returned value ∷ items) word = Goes (leaves w state f rest value)

-- without a frame the program begins, or is entered from outside, or is at its end
abbrev pub outside_step : Running → State → Option ℤ → ℕ → Outcome
outside_step w state None word = outcome 0 (starts w state word)
outside_step w state (Some status) word = end_step w state status (last_of state.kept)

abbrev pub frames_step : Running → State → List Frame → ℕ → Outcome
frames_step w state [] word = outside_step w state state.status word
frames_step w state (f ∷ rest) word = item_step w state f rest f.items word

-- the step of the machine
unfoldable pub step : Running → State → ℕ → Outcome
step w state word = frames_step w state state.frames word

-- Which steps choose.

abbrev pub within : ℕ → ℕ → ℕ → Bool
within a b k = nat_le a k && nat_le k b

-- the library functions that take a word in each of their steps: malloc to realloc, strchr to bsearch, memcmp to
-- getenv, printf to fflush, atoi, __ctype_b_loc
unfoldable pub library_chooses : ℕ → Bool
library_chooses k =
    nat_le k 2 || within 10 16 k || within 20 22 k || within 27 42 k || k == 51 || k == 53

abbrev pub is_pointer : Ctype → Bool
is_pointer (PointerTo to) = true
is_pointer t = false

-- `_Bool` is none of these: a pointer is true or false in it, whatever the word
abbrev pub is_measure : Ctype → Bool
is_measure (IntegerType size rank signed) = true
is_measure t = false

-- a pointer converted to a number
abbrev pub measures : CoreTrees → Ctype → NodeKind → List ℕ → Bool
measures u t Convert (v ∷ []) = is_pointer (type_at u v) && is_measure t
measures u t kind children = false

abbrev pub has_some : {X : Type 0} → List X → Bool
has_some [] = false
has_some (x ∷ rest) = true

-- the word picks one of two or more operands
abbrev pub node_chooses : CoreTrees → Option Node → List ℕ → Bool
node_chooses u None operands = false
node_chooses u (Some node) [] = measures u (type_of u.types node.ty.0) node.kind node.children
node_chooses u (Some node) (c ∷ operands) = has_some operands && picks (form_of node.kind)

abbrev pub item_chooses : CoreTrees → List Item → Bool
item_chooses u (Wait n operands values ∷ items) = node_chooses u (slice_get u.nodes n) operands
item_chooses u (Library n k arguments ∷ items) = library_chooses k
item_chooses u items = false

-- main is entered with arguments, where it has parameters
abbrev pub main_chooses : Running → Option ℕ → Bool
main_chooses w None = false
main_chooses w (Some main) = has_some (parameters_of w.trees (view_of w.space) main)

-- without a frame one of the entries is chosen, where there are any
abbrev pub start_chooses : Running → List ℕ → Bool
start_chooses w [] = main_chooses w (main_of w.trees)
start_chooses w (e ∷ entries) = true

abbrev pub outside_chooses : Running → Option ℤ → Bool
outside_chooses w None = start_chooses w w.entries
outside_chooses w (Some status) = false

abbrev pub frames_choose : Running → Option ℤ → List Frame → Bool
frames_choose w status [] = outside_chooses w status
frames_choose w status (f ∷ rest) = item_chooses w.trees f.items

abbrev pub chooses : Running → State → Bool
chooses w state = frames_choose w state.status state.frames
