-- The first locations of a program's objects and functions.
use Rattle.std.specs.Prelude.{◌≡◌, ◌⊎◌, ℕ, ◌<◌, ⊤, IsSome, Some, slice_get}
use Rattle.c_types.specs.declared.key.ObjectKey.{ObjectKey}
use Rattle.c_types.specs.declared.key.ObjectKey.TheVariants.{Entity as EntityKey}
use Rattle.c_types.specs.Table.{type_of, extent_in}
use Rattle.c_types.specs.Made.{IsMade}
use Rattle.core_tree.specs.declared.node.Entity.{Entity}
use Rattle.core_tree.specs.declared.node.NodeKind.{NodeKind}
use Rattle.core_tree.specs.declared.node.NodeKind.TheVariants.{FunctionName}
use Rattle.core_tree.specs.declared.node.Program.{Program}
use Rattle.core_tree.specs.declared.node.Storage.TheVariants.{FunctionBody, Declared}
use Rattle.core_tree.specs.Typed.{trees_in}
use Rattle.core_tree.specs.Range.{EachNode}
use Rattle.obj_made.specs.declared.object.Content.{Content}
use Rattle.obj_made.specs.Made.{entity_content}
use Rattle.obj_space.specs.declared.location.Location.{Location}
use Rattle.obj_space.specs.Space.{locations_in}
use Rattle.obj_space.specs.View.{first_from}
use Rattle.row_numbers.specs.Objects.{library_number, entity_key}

-- an object has a first location, and is made of that
pub record IsPlaced (p : Program) (key : ObjectKey) (content : Content) : Type 0 where
  pub first : ℕ
  pub location : Location
  pub first_is : first_from 0 (locations_in p) key ≡ Some first
  pub location_is : slice_get (locations_in p) first ≡ Some location
  pub content_is : location.content ≡ content

-- a function with a body, and an object that isn't only declared and whose type is complete
abbrev pub EntitiesPlaced : Type 0
EntitiesPlaced =
    (p : Program) (e : ℕ) (x : Entity)
    → IsMade p.types
    → slice_get p.entities.items e ≡ Some x
    → (x.storage ≡ Declared → ⊥)
    → ((x.storage ≡ FunctionBody → ⊥) → IsSome (extent_in p.types (type_of p.types x.ty.0)))
    → IsPlaced p (EntityKey e) (entity_content x.storage x.ty)

-- a function has a body, or is the library's
abbrev pub IsDefined : Entity → Type 0
IsDefined x = (x.storage ≡ FunctionBody) ⊎ ((k : ℕ) × (library_number x ≡ Some k) × (k < 55))

abbrev pub NamesDefined : Program → NodeKind → Type 0
NamesDefined p (FunctionName e) = (x : Entity) × (slice_get p.entities.items e ≡ Some x) × IsDefined x
NamesDefined p kind = ⊤

-- a function that a node names
abbrev pub HasFirst : Program → NodeKind → Type 0
HasFirst p (FunctionName e) =
    (l : ℕ) × (first_from 0 (locations_in p) (entity_key e (slice_get p.entities.items e)) ≡ Some l)
HasFirst p kind = ⊤

abbrev pub FunctionsFound : Type 0
FunctionsFound =
    (p : Program)
    → IsMade p.types
    → EachNode (trees_in p) (λ n node. NamesDefined p node.kind)
    → EachNode (trees_in p) (λ n node. HasFirst p node.kind)
