-- An object that the conversion above its call types has no type between the call and that conversion, which is the
-- very next step; and the conversion's operand alone points to it.
use Rattle.std.specs.Prelude.{◌≡◌, ℕ, ⊤, false, List, [], ◌∷◌, Some, None, slice_get}
use Rattle.c_types.specs.declared.key.ObjectKey.TheVariants.{Call as CallKey}
use Rattle.c_types.specs.declared.term.PathStep.TheVariants.{Index}
use Rattle.c_types.specs.declared.term.TypeId.{TypeId}
use Rattle.core_tree.specs.declared.node.Node.{Node}
use Rattle.core_tree.specs.declared.node.NodeKind.TheVariants.{Convert}
use Rattle.obj_made.specs.declared.object.Content.TheVariants.{Elements}
use Rattle.obj_space.specs.declared.location.Location.{Location}
use Rattle.obj_space.specs.View.{first_from}
use Rattle.ref_cells.specs.declared.cells.Cell.{Cell}
use Rattle.ref_cells.specs.declared.cells.Cell.TheVariants.{Pointer}
use Rattle.ref_cells.specs.declared.instance.Instance.{Instance}
use Rattle.ref_cells.specs.Cells.{CellList}
use Rattle.ref_mem.specs.Reads.{one_cell}
use Rattle.ref_state.specs.declared.items.Item.{Item}
use Rattle.ref_state.specs.declared.items.Item.TheVariants.{Do, Wait, Library, Result}
use Rattle.ref_state.specs.declared.frames.Frame.{Frame}
use Rattle.ref_state.specs.declared.state.State.{State}
use Rattle.covering_laws.specs.covered_memory.Cells.{EachCell}
use Rattle.covering_laws.specs.covered_state.World.{World, trees_of}
use Rattle.covering_laws.specs.covered_state.Items.{Each}

-- no pointer to an instance
abbrev pub IsApart : ℕ → Cell → Type 0
IsApart i (Pointer j path past) = j ≡ i → ⊥
IsApart i cell = ⊤

abbrev pub AreApart : ℕ → CellList → Type 0
AreApart i cells = EachCell (λ path cell. IsApart i cell) cells

-- an item holds no pointer to an instance
abbrev pub ItemApart : ℕ → Item → Type 0
ItemApart i (Do n) = ⊤
ItemApart i (Wait n left values) = Each (λ v. AreApart i v.1.cells) values
ItemApart i (Library n function arguments) = Each (λ v. AreApart i v.cells) arguments
ItemApart i (Result v) = AreApart i v.cells

-- an instance without a type, of an object that the conversion above a call types
pub record IsBare (world : World) (inst : Instance) : Type 0 where
  pub untyped : inst.ty ≡ None
  pub first : ℕ
  pub location : Location
  pub first_is : first_from 0 world.space inst.key ≡ Some first
  pub location_is : slice_get world.space first ≡ Some location
  pub id : TypeId
  pub content_is : location.content ≡ Elements id

-- The top item is that conversion, and it has the pointer to the instance. No other item and no cell of memory points
-- to it.
pub record IsAwaited (world : World) (i : ℕ) (inst : Instance) (memory : List Instance) (frames : List Frame)
    : Type 0 where
  pub top : Frame
  pub rest : List Frame
  pub frames_are : frames ≡ top ∷ rest
  pub convert : ℕ
  pub call : ℕ
  pub items : List Item
  pub items_are : top.items
      ≡ Wait convert [] ((call, one_cell (Pointer i (Index 0 ∷ []) false)) ∷ [])
      ∷ items
  pub node : Node
  pub there : slice_get (trees_of world).nodes convert ≡ Some node
  pub kind : node.kind ≡ Convert
  pub child : node.children ≡ call ∷ []
  pub key : inst.key ≡ CallKey call
  pub others : Each (ItemApart i) items
  pub below : Each (λ f. Each (ItemApart i) f.items) rest
  pub apart : (j : ℕ) (other : Instance) → slice_get memory j ≡ Some other → AreApart i other.cells

-- each such instance is awaited
pub record AwaitedIn (world : World) (state : State) : Type 0 where
  pub each : (i : ℕ) (inst : Instance)
      → slice_get state.memory i ≡ Some inst
      → IsBare world inst
      → IsAwaited world i inst state.memory state.frames
