-- What `covers` decides: that sets cover a state. It is what the invariant of steps says of memory, values, frames,
-- kept functions, notes and what was handed over, without what that carries beside: which function a node stands
-- in, and which types values have.
use Rattle.std.specs.Prelude.{◌≡◌, ◌⊎◌, ℕ, ◌≤◌, ⊤, List, Option, Some, None, length, slice_get}
use Rattle.c_types.specs.declared.key.ObjectKey.{ObjectKey}
use Rattle.c_types.specs.declared.key.ObjectKey.TheVariants.{Function as FunctionKey}
use Rattle.core_tree.specs.declared.node.Node.{Node}
use Rattle.core_tree.specs.Typed.{Sort, PlaceNode, ValueNode, sort_at}
use Rattle.normal_form.specs.Assignments.{row_in}
use Rattle.call_sites.specs.Calls.{rest_of}
use Rattle.ref_cells.specs.declared.cells.Value.{Value}
use Rattle.ref_cells.specs.declared.instance.Instance.{Instance}
use Rattle.ref_cells.specs.Cells.{CellList}
use Rattle.ref_state.specs.declared.items.Item.{Item}
use Rattle.ref_state.specs.declared.items.Item.TheVariants.{Do, Wait, Library, Result}
use Rattle.ref_state.specs.declared.frames.Frame.{Frame}
use Rattle.ref_state.specs.declared.state.State.{State}
use Rattle.covering_laws.specs.covered_memory.Cells.{EachCell}
use Rattle.covering_laws.specs.covered_memory.Covered.{CellIn, MemoryIn}
use Rattle.covering_laws.specs.covered_rows.Nodes.{HeldIn}
use Rattle.covering_laws.specs.covered_state.World.{World, trees_of, sets_of, setting_in, IsTargetAt}
use Rattle.covering_laws.specs.covered_state.Items.{Each, ReturnedIn, ArgumentsIn, IsPendingBack}
use Rattle.covering_laws.specs.covered_state.Awaited.{AwaitedIn}
use Rattle.covering_laws.specs.covered_state.State.{BackIn, KeptIn, NotesIn, HandedIn, Covered}

-- what cells point to is in one row's set; without a row they point to nothing
abbrev pub RowIn : World → List Instance → Option ℕ → CellList → Type 0
RowIn world memory at cells = EachCell (λ path cell. CellIn (sets_of world) memory at cell) cells

-- a place that a node has is in its row, a value in its rows, and what is neither points to nothing
abbrev pub HasIn : World → List Instance → Sort → ℕ → Value → Type 0
HasIn world memory PlaceNode n v = RowIn world memory (Some (row_in (setting_in world) n)) v.cells
HasIn world memory ValueNode n v = HeldIn (sets_of world) (setting_in world) memory n v
HasIn world memory sort n v = RowIn world memory None v.cells

-- a pending function of the library is a target of its call, and each of its arguments is covered at its node
pub record IsWaiting (world : World) (memory : List Instance) (n function : ℕ) (arguments : List Value)
    : Type 0 where
  pub node : Node
  pub there : slice_get (trees_of world).nodes n ≡ Some node
  pub target : IsTargetAt world n (FunctionKey function)
  pub arguments_in : ArgumentsIn world memory (rest_of node.children) arguments
  pub all : length arguments ≤ length (rest_of node.children)

-- what an item of a function's frame holds
abbrev pub HoldsIn : World → List Instance → ObjectKey → Item → Type 0
HoldsIn world memory f (Do n) = ⊤
HoldsIn world memory f (Wait n left values) =
    Each (λ v. HasIn world memory (sort_at (trees_of world) v.0) v.0 v.1) values
HoldsIn world memory f (Library n function arguments) =
    IsWaiting world memory n function arguments ⊎ IsPendingBack world memory n function arguments
HoldsIn world memory f (Result v) = ReturnedIn world memory f v

-- a frame's function is a target of the call that entered it
abbrev pub EntersBy : World → ObjectKey → Option ℕ → Type 0
EntersBy world key None = ⊤
EntersBy world key (Some n) = IsTargetAt world n key

pub record StandsIn (world : World) (memory : List Instance) (f : Frame) : Type 0 where
  pub called : EntersBy world f.function f.call
  pub back : BackIn world f.function f.by
  pub items : Each (HoldsIn world memory f.function) f.items

-- the sets cover a state
pub record IsCovered (world : World) (state : State) : Type 0 where
  pub memory : MemoryIn (sets_of world) state.memory
  pub frames : Each (StandsIn world state.memory) state.frames
  pub kept : Each (λ entry. KeptIn world entry.0 entry.1) state.kept
  pub notes : NotesIn world state.memory state.notes
  pub handed : Each (HandedIn world state.memory) state.handed
  pub awaited : AwaitedIn world state

-- the invariant of steps says no less
abbrev pub CoveredIsCovered : Type 0
CoveredIsCovered = (world : World) (state : State) → Covered world state → IsCovered world state
