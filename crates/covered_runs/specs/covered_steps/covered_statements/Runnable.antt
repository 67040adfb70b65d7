-- What steps stand on in a program, and what they keep.
use Rattle.std.specs.Prelude.{◌≡◌, ℕ, true, IsSome, [], ◌∷◌, Some, slice_get}
use Rattle.c_types.specs.declared.key.ObjectKey.TheVariants.{Entity as EntityKey}
use Rattle.c_types.specs.Trees.{StructureOf}
use Rattle.c_types.specs.declared.term.Term.TheVariants.{Union}
use Rattle.c_types.specs.Table.{type_of, extent_in}
use Rattle.type_rules.specs.Conversions.{result_of}
use Rattle.core_tree.specs.declared.node.Entity.{Entity}
use Rattle.core_tree.specs.declared.node.NodeKind.TheVariants.{Return}
use Rattle.core_tree.specs.declared.node.Storage.TheVariants.{FunctionBody}
use Rattle.core_tree.specs.Range.{EachNode, EachEntity, InRange, ChildOnce}
use Rattle.core_tree.specs.Typed.{type_at}
use Rattle.core_tree.specs.Valid.{IsBlockIn}
use Rattle.obj_made.specs.Made.{entity_content}
use Rattle.obj_space.specs.declared.location.Location.{Location}
use Rattle.obj_space.specs.View.{first_from}
use Rattle.row_numbers.specs.Objects.{entity_key}
use Rattle.row_numbers.specs.Setting.{takes_further}
use Rattle.normal_form.specs.Assignments.{given_type}
use Rattle.ref_state.specs.declared.state.State.{State}
use Rattle.ref_blocks.specs.declared.block.Block.{Block}
use Rattle.ref_blocks.specs.Blocks.{objects_of}
use Rattle.covering_laws.specs.covered_types.Whole.{IsFew, IsHeld}
use Rattle.covering_laws.specs.covered_state.World.{World, trees_of, setting_in}
use Rattle.covering_laws.specs.covered_state.Items.{Each, IsOwned}
use Rattle.covering_laws.specs.covered_state.State.{Covered}
use Rattle.covered_runs.specs.covered_steps.covered_values.Values.{Stands}
use Rattle.covered_runs.specs.covered_steps.covered_values.Passed.{AreTypedAbove}
use Rattle.covered_runs.specs.covered_steps.Made.{HasPlace}
use Rattle.covered_runs.specs.covered_steps.Owned.{AreTops, AreSingle}
use Rattle.covered_runs.specs.covered_steps.covered_calls.Activations.{HasFurther}
use Rattle.covered_runs.specs.covered_steps.covered_statements.Stacked.{FramesStand}

-- what a function returns is of its result type
abbrev pub ReturnsFit : World → Type 0
ReturnsFit world =
    EachNode (trees_of world) (λ n node. (v g : ℕ) → node.kind ≡ Return → node.children ≡ v ∷ []
    → IsOwned world (EntityKey g) n → type_at (trees_of world) v ≡ given_type (setting_in world) g)

-- what a function with a body gives is of a type that values may have
abbrev pub ResultsHeld : World → Type 0
ResultsHeld world =
    EachEntity (trees_of world) (λ f function. function.storage ≡ FunctionBody
    → IsHeld world.program.types (result_of (type_of world.program.types function.ty.0)))

-- the objects of entities are made of what the entities say, complete where they are no functions, and none of them
-- is one of the library's
abbrev pub ObjectsOwn : World → Type 0
ObjectsOwn world =
    (e l : ℕ) (x : Location)
    → first_from 0 world.space (EntityKey e) ≡ Some l
    → slice_get world.space l ≡ Some x
    → (entity : Entity)
    × (slice_get (trees_of world).entities e ≡ Some entity)
    × (x.content ≡ entity_content entity.storage entity.ty)
    × (entity_key e (Some entity) ≡ EntityKey e)
    × ((entity.storage ≡ FunctionBody → ⊥)
    → IsSome (extent_in world.program.types (type_of world.program.types entity.ty.0)))

-- a variadic function with a body has an object of what it is passed past its parameters
abbrev pub FurtherPlaced : World → Type 0
FurtherPlaced world =
    EachEntity (trees_of world) (λ f function. function.storage ≡ FunctionBody
    → takes_further (type_of world.program.types function.ty.0) ≡ true → HasFurther world f)

-- a function's body is a block
abbrev pub BodiesBlocks : World → Type 0
BodiesBlocks world =
    EachEntity (trees_of world) (λ f function. (b : ℕ) → function.storage ≡ FunctionBody → function.body ≡ Some b
    → IsBlockIn (slice_get (trees_of world).nodes b))

-- a world over a program that is valid: its nodes stand in their rows, each in one place, and its objects have theirs
pub record IsRunnable (world : World) : Type 0 where
  pub stands : Stands world
  pub typed : AreTypedAbove world
  pub range : InRange (trees_of world)
  pub once : ChildOnce (trees_of world)
  pub tops : AreTops (trees_of world)
  pub single : AreSingle (trees_of world)
  pub returns : ReturnsFit world
  pub results : ResultsHeld world
  pub places : (b : Block) → Each (HasPlace world) (objects_of (trees_of world) b)
  pub objects : ObjectsOwn world
  pub further : FurtherPlaced world
  pub blocks : BodiesBlocks world
  pub fit : (tag : ℕ)
      → ((i : ℕ) → slice_get world.program.types.terms i ≡ Some (Union tag) → ⊥)
      → IsFew world.program.types (StructureOf tag)

-- what holds from step to step: the sets cover the state, and its items are stacked
pub record Steady (world : World) (state : State) : Type 0 where
  pub covered : Covered world state
  pub stacked : FramesStand world state.memory state.frames
