-- That each stop of a run for a type that doesn't fit is listed, or has one of the causes that are named here.
use Rattle.std.specs.Prelude.{◌≡◌, ◌⊎◌, ℕ, ⊤, true, false, List, [], ◌∷◌, Option, Some, None, Ok, slice_get}
use Rattle.c_types.specs.declared.key.ObjectKey.TheVariants.{Entity as EntityKey, Text as TextKey}
use Rattle.c_types.specs.declared.key.ObjectKey.TheVariants.{Varargs as VarargsKey}
use Rattle.c_types.specs.Trees.{Ctype, BoolType, IntegerType, PointerTo}
use Rattle.type_rules.specs.Kinds.{int}
use Rattle.core_tree.specs.declared.node.Entity.{Entity}
use Rattle.core_tree.specs.declared.node.Node.{Node}
use Rattle.core_tree.specs.declared.node.NodeKind.{NodeKind}
use Rattle.core_tree.specs.declared.node.NodeKind.TheVariants.{Named, Text, Literal, Deref, Member, Fetch, Decay}
use Rattle.core_tree.specs.declared.node.NodeKind.TheVariants.{PointerAdd, Convert, Upcast, Assign, Update, CallNode}
use Rattle.core_tree.specs.declared.node.NodeKind.TheVariants.{Arith, VarArgs, DoWhile, Switch}
use Rattle.core_tree.specs.declared.node.NodeKind.TheVariants.{Return, Initialise}
use Rattle.core_tree.specs.declared.node.Program.{Program}
use Rattle.core_tree.specs.declared.node.Unit.{Unit}
use Rattle.core_tree.specs.Rows.{Has}
use Rattle.core_tree.specs.Typed.{CoreTrees, type_at}
use Rattle.sol_model.specs.declared.system.System.{System}
use Rattle.sol_model.specs.Families.{Family}
use Rattle.obj_space.specs.Space.{locations_in}
use Rattle.obj_space.specs.View.{view_of}
use Rattle.row_numbers.specs.Functions.{parameters_of}
use Rattle.row_numbers.specs.Objects.{entity_key, library_id}
use Rattle.stop_places.specs.Sight.{solution_of}
use Rattle.stop_places.specs.Stops.{Stands}
use Rattle.ref_cells.specs.declared.cells.Cell.{Cell}
use Rattle.ref_cells.specs.declared.cells.Cell.TheVariants.{Unset, Number}
use Rattle.ref_cells.specs.declared.cells.Reason.TheVariants.{Mismatch}
use Rattle.ref_cells.specs.declared.cells.Value.{Value}
use Rattle.ref_cells.specs.declared.instance.Instance.{Instance}
use Rattle.ref_elements.specs.Objects.{object_from}
use Rattle.ref_lib.specs.declared.rows.Making.TheVariants.{Perhaps, Object, Place, Classes}
use Rattle.ref_lib.specs.declared.rows.Row.{Row}
use Rattle.ref_lib.specs.declared.rows.Row.TheVariants.{Makes}
use Rattle.ref_lib.specs.Effects.{rows}
use Rattle.ref_state.specs.declared.frames.Frame.{Frame}
use Rattle.ref_state.specs.declared.items.Item.{Item}
use Rattle.ref_state.specs.declared.items.Item.TheVariants.{Do, Wait, Library}
use Rattle.ref_state.specs.declared.state.State.{State}
use Rattle.ref_state.specs.Values.{cell_in, cell_of}
use Rattle.ref_places.specs.Places.{instance_of}
use Rattle.ref_frames.specs.Frames.{have_types, called_list}
use Rattle.ref_frames.specs.Running.{Running}
use Rattle.ref_calls.specs.declared.reached.Target.{Target}
use Rattle.ref_calls.specs.Library.{result_in, term_in}
use Rattle.ref_calls.specs.Outcomes.{Stops}
use Rattle.ref_calls.specs.Reached.{reached}
use Rattle.ref_machine.specs.Types.{running}
use Rattle.ref_machine.specs.Step.{step}
use Rattle.ref_machine.specs.Run.{run}
use Rattle.covered_runs.specs.covered_programs.Programs.{IsAnalysed}
use Rattle.covered_runs.specs.covered_steps.covered_statements.Stacked.{waits_next}

-- a cell has the form of a scalar's type: an integer is a number, and a pointer is set and is none
abbrev pub HasForm : Ctype → Cell → Type 0
HasForm (PointerTo to) Unset = ⊥
HasForm (PointerTo to) (Number n) = ⊥
HasForm BoolType (Number n) = ⊤
HasForm BoolType cell = ⊥
HasForm (IntegerType size rank signed) (Number n) = ⊤
HasForm (IntegerType size rank signed) cell = ⊥
HasForm t cell = ⊤

-- some operand's value hasn't the form of the operand's type
abbrev pub IsMalformed : CoreTrees → List ℕ → List (ℕ × Value) → Type 0
IsMalformed u children values = (c : ℕ) × Has children c × (HasForm (type_at u c) (cell_in values c) → ⊥)

-- the value by which a switch goes is no number
abbrev pub LacksNumber : List (ℕ × Value) → Type 0
LacksNumber [] = ⊥
LacksNumber (v ∷ rest) = HasForm int (cell_of v.1) → ⊥

-- a function can be entered: it has a body, and its parameters have the types of its list
pub record CanEnter (w : Running) (e : ℕ) : Type 0 where
  pub entity : Entity
  pub there : slice_get w.trees.entities e ≡ Some entity
  pub body : ℕ
  pub body_is : entity.body ≡ Some body
  pub typed : have_types w.trees (parameters_of w.trees (view_of w.space) e) (called_list w.trees entity) ≡ true

-- the call at a node reaches a function that can't be entered
pub record ReachesClosed (w : Running) (n : ℕ) (values : List (ℕ × Value)) : Type 0 where
  pub target : Target
  pub reaches : reached w.trees n values ≡ Ok target
  pub function : ℕ
  pub is_function : target.key ≡ EntityKey function
  pub closed : CanEnter w function → ⊥

-- What else may stop the row of a node of that kind, with those children and their values. The first six go by the
-- type that stands at a place, or where a pointer leads: of these nothing more is said here. The next five name an
-- object of which the frame and the memory have no instance; then come operands that aren't of their form,
-- statements that wait for nothing, and a function that can't be entered. Other rows never stop so.
abbrev pub Cause : Running → State → Frame → ℕ → NodeKind → List ℕ → List (ℕ × Value) → Type 0
Cause w state f n Fetch children values = ⊤
Cause w state f n (Update op post) children values = ⊤
Cause w state f n Assign children values = ⊤
Cause w state f n Decay children values = ⊤
Cause w state f n (Member k) children values = ⊤
Cause w state f n Upcast children values = ⊤
Cause w state f n (Named e) children values =
    instance_of state.memory f.instances (entity_key e (slice_get w.trees.entities e)) ≡ None
Cause w state f n (Text bytes) children values = instance_of state.memory f.instances (TextKey n) ≡ None
Cause w state f n (Literal e) children values = instance_of state.memory f.instances (EntityKey e) ≡ None
Cause w state f n (VarArgs e) children values = instance_of state.memory f.instances (VarargsKey e) ≡ None
Cause w state f n (Initialise e paths) children values =
    instance_of state.memory f.instances (EntityKey e) ≡ None
Cause w state f n Deref children values = IsMalformed w.trees children values
Cause w state f n Convert children values = IsMalformed w.trees children values
Cause w state f n (Arith op) children values = IsMalformed w.trees children values
Cause w state f n (PointerAdd minus) children values = IsMalformed w.trees children values
Cause w state f n Switch children values = LacksNumber values
Cause w state f n DoWhile children values = (waits_next f.items ≡ true) × (values ≡ [])
Cause w state f n Return children values = (waits_next f.items ≡ true) × (children ≡ [])
Cause w state f n CallNode children values = ReachesClosed w n values
Cause w state f n kind children values = ⊥

-- a node is begun, or all of its operands are there with these values
abbrev pub IsTop : Frame → ℕ → List (ℕ × Value) → List Item → Type 0
IsTop f n values items = ((f.items ≡ Do n ∷ items) × (values ≡ [])) ⊎ (f.items ≡ Wait n [] values ∷ items)

-- the top item is that of a node whose row has such a cause
pub record StopsInRow (w : Running) (state : State) (n : ℕ) : Type 0 where
  pub frame : Frame
  pub rest : List Frame
  pub frames_are : state.frames ≡ frame ∷ rest
  pub values : List (ℕ × Value)
  pub items : List Item
  pub top : IsTop frame n values items
  pub node : Node
  pub there : slice_get w.trees.nodes n ≡ Some node
  pub cause : Cause w state frame n node.kind node.children values

-- an object of the library that a function names isn't in memory
abbrev pub LacksObject : List Instance → Option Row → Type 0
LacksObject memory (Some (Makes (Perhaps position))) = object_from position 0 memory ≡ None
LacksObject memory (Some (Makes (Object position))) = object_from position 0 memory ≡ None
LacksObject memory (Some (Makes (Place position))) = object_from position 0 memory ≡ None
LacksObject memory (Some (Makes Classes)) = (object_from 8 0 memory ≡ None) ⊎ (object_from 7 0 memory ≡ None)
LacksObject memory row = ⊥

-- The top item is a pending function of the library that another one calls back, that the program gives no function's
-- type, or that names an object which isn't there.
pub record StopsPending (w : Running) (state : State) (n : ℕ) : Type 0 where
  pub frame : Frame
  pub rest : List Frame
  pub frames_are : state.frames ≡ frame ∷ rest
  pub function : ℕ
  pub arguments : List Value
  pub items : List Item
  pub items_are : frame.items ≡ Library n function arguments ∷ items
  pub cause : (waits_next items ≡ false)
      ⊎ ((result_in (term_in w.trees (library_id function w.trees.entities)) ≡ None)
      ⊎ LacksObject state.memory (slice_get rows function))

-- what else than a listed node stops a step; without a frame the program begins or ends
pub data HasCause (w : Running) (state : State) (n : ℕ) : Type 0 where
  in_row : StopsInRow w state n → HasCause w state n
  pending : StopsPending w state n → HasCause w state n
  outside : state.frames ≡ [] → HasCause w state n

-- The program is linked from the units, and has the least sets of its system. Where a step of one of its runs stops
-- with Mismatch, whatever the words and however many steps, it stops at a node that stands as a mismatch, or has one
-- of those causes.
abbrev pub MismatchesListed : Type 0
MismatchesListed =
    (units : List Unit) (p : Program) (system : System) (family : Family) (words : List ℕ) (k word n : ℕ)
    → IsAnalysed units p system family
    → step (running p) (run p words k) word ≡ Stops Mismatch n
    → Stands (solution_of p (locations_in p) system family) n false ⊎ HasCause (running p) (run p words k) n
