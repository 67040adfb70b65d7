-- Instances that are made and ended over a covered memory.
use Rattle.std.specs.Prelude.{◌≡◌, ℕ, ◌+◌, IsSome, List, ◌++◌, Some, slice_get}
use Rattle.c_types.specs.declared.key.ObjectKey.TheVariants.{Entity as EntityKey}
use Rattle.c_types.specs.Table.{type_of, extent_in}
use Rattle.core_tree.specs.declared.node.Entity.{Entity}
use Rattle.obj_made.specs.declared.object.Content.TheVariants.{Typed}
use Rattle.obj_space.specs.declared.location.Location.{Location}
use Rattle.obj_space.specs.View.{first_from}
use Rattle.ref_cells.specs.declared.cells.Value.{Value}
use Rattle.ref_cells.specs.declared.instance.Instance.{Instance}
use Rattle.ref_state.specs.Changes.{ended_all}
use Rattle.ref_blocks.specs.Blocks.{unset_object}
use Rattle.ref_frames.specs.Frames.{parameter_object}
use Rattle.covering_laws.specs.covered_memory.Covered.{ValueIn, InstanceIn, MemoryIn, Leaves}
use Rattle.covering_laws.specs.covered_memory.Demands.{Grounds}
use Rattle.covering_laws.specs.covered_state.World.{World, trees_of, sets_of}
use Rattle.covering_laws.specs.covered_state.Items.{Each}

-- an entity that is an object of a complete type, with its first location
pub record HasPlace (world : World) (e : ℕ) : Type 0 where
  pub entity : Entity
  pub entity_is : slice_get (trees_of world).entities e ≡ Some entity
  pub first : ℕ
  pub location : Location
  pub first_is : first_from 0 world.space (EntityKey e) ≡ Some first
  pub location_is : slice_get world.space first ≡ Some location
  pub content_is : location.content ≡ Typed entity.ty
  pub complete : IsSome (extent_in world.program.types (type_of world.program.types entity.ty.0))

-- instances that are covered beside a memory are made behind it
abbrev pub InstancesMade : Type 0
InstancesMade =
    (world : World) (memory news : List Instance)
    → Grounds world.program.types world.space world.system
    → MemoryIn (sets_of world) memory
    → Each (InstanceIn (sets_of world) memory) news
    → Leaves (sets_of world) memory (memory ++ news)

-- instances end
abbrev pub InstancesEnded : Type 0
InstancesEnded =
    (world : World) (memory : List Instance) (list : List ℕ)
    → Grounds world.program.types world.space world.system
    → MemoryIn (sets_of world) memory
    → Leaves (sets_of world) memory (ended_all memory list)

-- an object of which nothing is set
abbrev pub UnsetCovered : Type 0
UnsetCovered =
    (world : World) (memory : List Instance) (e : ℕ)
    → HasPlace world e
    → InstanceIn (sets_of world) memory (unset_object (trees_of world) e)

-- a parameter's object, with an argument that is covered in its rows
abbrev pub ParametersCovered : Type 0
ParametersCovered =
    (world : World) (memory : List Instance) (e : ℕ) (value : Value)
    → (h : HasPlace world e)
    → ValueIn (sets_of world) memory (λ i. h.first + i) (type_of world.program.types h.entity.ty.0) value
    → InstanceIn (sets_of world) memory (parameter_object (trees_of world) (EntityKey e) value)
