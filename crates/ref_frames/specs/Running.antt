-- What the steps of a run are over: a program's trees, its locations, the type of characters, and its entries.
use Rattle.std.specs.Prelude.{ℕ, List, Option, Some, None, slice_get}
use Rattle.c_types.specs.declared.key.ObjectKey.{ObjectKey}
use Rattle.c_types.specs.declared.key.ObjectKey.TheVariants.{Entity as EntityKey}
use Rattle.core_tree.specs.declared.node.Entity.{Entity}
use Rattle.c_types.specs.declared.term.TypeId.{TypeId}
use Rattle.core_tree.specs.Typed.{CoreTrees}
use Rattle.obj_made.specs.declared.object.Content.{Content}
use Rattle.obj_made.specs.declared.object.Content.TheVariants.{Scalars, Elements}
use Rattle.obj_space.specs.declared.location.Location.{Location}
use Rattle.obj_space.specs.View.{first_from}

pub record Running : Type 0 where
  pub trees : CoreTrees
  pub space : List Location
  pub characters : TypeId
  pub entries : List ℕ

abbrev pub location_in : List Location → Option ℕ → Option Location
location_in space None = None
location_in space (Some l) = slice_get space l

abbrev pub element_in : TypeId → Content → Option TypeId
element_in characters (Elements id) = Some id
element_in characters (Scalars number) = Some characters
element_in characters content = None

abbrev pub element_by : TypeId → Option Location → Option TypeId
element_by characters None = None
element_by characters (Some x) = element_in characters x.content

-- the type of the elements of an object that a call makes, where it is fixed
abbrev pub element_type : Running → ObjectKey → Option TypeId
element_type w key = element_by w.characters (location_in w.space (first_from 0 w.space key))

-- the entity that a key is
abbrev pub entity_of : ObjectKey → Option ℕ
entity_of (EntityKey e) = Some e
entity_of key = None

-- the function that owns an entity
abbrev pub owner_in : Option Entity → Option ℕ
owner_in None = None
owner_in (Some entity) = entity.owner
