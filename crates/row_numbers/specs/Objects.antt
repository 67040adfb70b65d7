-- The objects that a program's names stand for.
use Rattle.std.specs.Prelude.{ℕ, ◌-◌, ◌==◌, nat_lt, Bool, true, false, if◌then◌else◌, List, Option, Some, None}
use Rattle.std.specs.Prelude.{find, slice_get, unwrap_or}
use Rattle.std.specs.Option.{option_map, option_map_or}
use Rattle.c_types.specs.declared.key.ObjectKey.{ObjectKey}
use Rattle.c_types.specs.declared.key.ObjectKey.TheVariants.{Entity as EntityKey, Library, Function}
use Rattle.c_types.specs.declared.term.TypeId.{TypeId}
use Rattle.lib_summaries.specs.Table.{summary_of}
use Rattle.core_tree.specs.declared.node.Entity.{Entity}
use Rattle.core_tree.specs.declared.node.Linkage.{Linkage}
use Rattle.core_tree.specs.declared.node.Linkage.TheVariants.{External}
use Rattle.core_tree.specs.declared.node.Storage.{Storage}
use Rattle.core_tree.specs.declared.node.Storage.TheVariants.{Declared}
use Rattle.core_tree.specs.Typed.{CoreTrees}
use Rattle.obj_space.specs.View.{SpaceView}

-- a name of external linkage that the program only declares
abbrev pub is_open : Linkage → Storage → Bool
is_open External Declared = true
is_open linkage storage = false

-- the number of the library name that an entity is: of external linkage, and only declared
abbrev pub library_number : Entity → Option ℕ
library_number entity =
    if is_open entity.linkage entity.storage
    then option_map (λ found. found.number) (summary_of entity.name)
    else None

-- the names from number 55 on are those of stdin, stdout and stderr, which stand from position 3 on among the
-- library's objects
abbrev pub library_key : ℕ → ObjectKey
library_key number = if nat_lt number 55 then Function number else Library (number - 52)

-- the object that an entity is: one of the library, or the entity's own
abbrev pub entity_key : ℕ → Option Entity → ObjectKey
entity_key e None = EntityKey e
entity_key e (Some entity) = option_map_or library_key (library_number entity) (EntityKey e)

-- the first location of an entity's object
abbrev pub location_of : CoreTrees → SpaceView → ℕ → ℕ
location_of u s e = unwrap_or (s.first (entity_key e (slice_get u.entities e))) 0

-- the entity is the library name of that number
abbrev pub is_library : ℕ → Entity → Bool
is_library number entity = option_map_or (λ found. found == number) (library_number entity) false

-- the declared type of a library name
abbrev pub library_id : ℕ → List Entity → Option TypeId
library_id number entities = option_map (λ entity. entity.ty) (find (is_library number) entities)
