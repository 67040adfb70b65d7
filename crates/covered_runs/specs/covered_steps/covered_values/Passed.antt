-- Values that pass from a branch to a choice, and from a return to its function; and types that conversions give.
use Rattle.std.specs.Prelude.{◌≡◌, ℕ, List, [], ◌∷◌, Some, slice_get}
use Rattle.c_types.specs.declared.key.ObjectKey.TheVariants.{Entity as EntityKey, Call as CallKey}
use Rattle.c_types.specs.declared.term.TypeId.{TypeId}
use Rattle.core_tree.specs.declared.node.Node.{Node}
use Rattle.core_tree.specs.declared.node.NodeKind.TheVariants.{Choose, Return, Convert}
use Rattle.core_tree.specs.Typed.{type_at}
use Rattle.obj_made.specs.declared.object.Content.TheVariants.{Elements}
use Rattle.obj_space.specs.declared.location.Location.{Location}
use Rattle.ref_cells.specs.declared.cells.Value.{Value}
use Rattle.ref_cells.specs.declared.instance.Instance.{Instance}
use Rattle.ref_state.specs.declared.items.Item.{Item}
use Rattle.ref_state.specs.declared.items.Item.TheVariants.{Wait}
use Rattle.ref_state.specs.declared.frames.Frame.{Frame}
use Rattle.ref_state.specs.declared.state.State.{State}
use Rattle.ref_state.specs.Values.{cell_in}
use Rattle.ref_values.specs.Memory.{pointee}
use Rattle.normal_form.specs.Assignments.{given_type}
use Rattle.covering_laws.specs.covered_state.World.{World, trees_of, setting_in}
use Rattle.covering_laws.specs.covered_state.Items.{NodeIn, IsOwned, ReturnedIn}
use Rattle.covering_laws.specs.covered_state.Awaited.{AwaitedIn}
use Rattle.covered_runs.specs.covered_steps.covered_values.Values.{Stands, MayType}

-- the value of either branch is covered at the choice
abbrev pub ChoicesCovered : Type 0
ChoicesCovered =
    (world : World) (memory : List Instance) (n : ℕ) (node : Node) (c a b : ℕ) (v : Value)
    → Stands world
    → slice_get (trees_of world).nodes n ≡ Some node
    → node.kind ≡ Choose
    → node.children ≡ c ∷ a ∷ b ∷ []
    → (NodeIn world memory a v → NodeIn world memory n v) × (NodeIn world memory b v → NodeIn world memory n v)

-- what is returned is covered in the result of the function around the return
abbrev pub ReturnsPassed : Type 0
ReturnsPassed =
    (world : World) (memory : List Instance) (n : ℕ) (node : Node) (v f : ℕ) (value : Value)
    → Stands world
    → slice_get (trees_of world).nodes n ≡ Some node
    → node.kind ≡ Return
    → node.children ≡ v ∷ []
    → IsOwned world (EntityKey f) n
    → type_at (trees_of world) v ≡ given_type (setting_in world) f
    → NodeIn world memory v value
    → ReturnedIn world memory (EntityKey f) value

-- what a call allocates has elements of the type to which the conversion above the call points
abbrev pub AreTypedAbove : World → Type 0
AreTypedAbove world =
    (l : ℕ) (x : Location) (c : ℕ) (id : TypeId) (n : ℕ) (node : Node)
    → slice_get world.space l ≡ Some x
    → x.key ≡ CallKey c
    → x.content ≡ Elements id
    → slice_get (trees_of world).nodes n ≡ Some node
    → node.kind ≡ Convert
    → node.children ≡ c ∷ []
    → pointee (slice_get world.program.types.terms node.ty.0) ≡ Some id

-- where a conversion is on top with its operand, an object without a type may have the one that it points to
abbrev pub TypesAwaited : Type 0
TypesAwaited =
    (world : World) (state : State) (f : Frame) (rest : List Frame) (n v : ℕ) (node : Node)
    (values : List (ℕ × Value)) (items : List Item)
    → AreTypedAbove world
    → AwaitedIn world state
    → state.frames ≡ f ∷ rest
    → f.items ≡ Wait n [] values ∷ items
    → slice_get (trees_of world).nodes n ≡ Some node
    → node.kind ≡ Convert
    → node.children ≡ v ∷ []
    → MayType world state.memory (cell_in values v) node.ty
