-- The functions of a program in the order of their locations, and the parameters of each.
use Rattle.std.specs.Prelude.{ℕ, ◌==◌, ◌&&◌, Bool, true, false, if◌then◌else◌, List, ◌++◌, Option, Some, None}
use Rattle.std.specs.Prelude.{length, map, find, filter, slice_get, codes}
use Rattle.std.specs.List.{filter_map, enumerate_from, range_with_len}
use Rattle.std.specs.Option.{option_map, option_map_or}
use Rattle.std.specs.Str.{bytes_eq}
use Rattle.c_types.specs.declared.key.ObjectKey.{ObjectKey}
use Rattle.c_types.specs.declared.key.ObjectKey.TheVariants.{Entity as EntityKey, Function}
use Rattle.c_types.specs.Trees.{Ctype, VoidType}
use Rattle.c_types.specs.declared.term.TypeId.{TypeId}
use Rattle.c_types.specs.Table.{Table, type_of}
use Rattle.core_tree.specs.declared.node.Entity.{Entity}
use Rattle.core_tree.specs.declared.node.Linkage.{Linkage}
use Rattle.core_tree.specs.declared.node.Linkage.TheVariants.{External}
use Rattle.core_tree.specs.declared.node.Storage.{Storage}
use Rattle.core_tree.specs.declared.node.Storage.TheVariants.{FunctionBody, Parameter}
use Rattle.core_tree.specs.Typed.{CoreTrees}
use Rattle.obj_space.specs.View.{SpaceView}
use Rattle.row_numbers.specs.declared.functions.Role.{Role}
use Rattle.row_numbers.specs.declared.functions.Role.TheVariants.{Defined, Parameter as ParameterRole, Main}
use Rattle.row_numbers.specs.Objects.{library_id}

abbrev pub has_body : Storage → Bool
has_body FunctionBody = true
has_body storage = false

abbrev pub is_parameter : Storage → Bool
is_parameter Parameter = true
is_parameter storage = false

abbrev pub is_external : Linkage → Bool
is_external External = true
is_external linkage = false

-- a function with a body, a parameter, or the function with a body and external linkage that is called main
abbrev pub plays : Role → Entity → Bool
plays Defined entity = has_body entity.storage
plays ParameterRole entity = is_parameter entity.storage
plays Main entity = has_body entity.storage && is_external entity.linkage && bytes_eq entity.name (codes "main")

abbrev pub key_if : Role → ℕ → Entity → Option ObjectKey
key_if role e entity = if plays role entity then Some (EntityKey e) else None

-- the entities in a role, in order
abbrev pub keys_in : Role → List Entity → List ObjectKey
keys_in role entities = filter_map (λ entry. key_if role entry.0 entry.1) (enumerate_from 0 entities)

-- an object begins at that location
abbrev pub begins_at : SpaceView → ℕ → ObjectKey → Bool
begins_at s location key = option_map_or (λ first. first == location) (s.first key) false

-- the one of these objects that begins at a location
abbrev pub object_at : SpaceView → List ObjectKey → ℕ → Option ObjectKey
object_at s keys location = find (begins_at s location) keys

-- what begins at each of the first so many locations
abbrev pub objects_at : SpaceView → List ObjectKey → ℕ → List (Option ObjectKey)
objects_at s keys locations = map (object_at s keys) (range_with_len 0 locations)

-- these objects in the order of their locations, as far as they begin at the first so many locations
abbrev pub in_order : SpaceView → List ObjectKey → ℕ → List ObjectKey
in_order s keys locations = filter_map (λ found. found) (objects_at s keys locations)

-- the functions with a body, and those of the library
abbrev pub function_keys : CoreTrees → List ObjectKey
function_keys u = keys_in Defined u.entities ++ map (λ k. Function k) (range_with_len 0 55)

-- the functions at the first so many locations
unfoldable pub functions_below : CoreTrees → SpaceView → ℕ → List ObjectKey
functions_below u s locations = in_order s (function_keys u) locations

-- all functions
abbrev pub functions_of : CoreTrees → SpaceView → List ObjectKey
functions_of u s = functions_below u s s.count

-- the function at a location
abbrev pub function_at : CoreTrees → SpaceView → ℕ → Option ObjectKey
function_at u s location = object_at s (function_keys u) location

-- the number of the function at a location: how many stand at locations before it
abbrev pub number_at : CoreTrees → SpaceView → ℕ → ℕ
number_at u s location = length (functions_below u s location)

-- the number of the function that an entity is
abbrev pub number_of : CoreTrees → SpaceView → ℕ → ℕ
number_of u s f = option_map_or (number_at u s) (s.first (EntityKey f)) 0

abbrev pub entity_in : CoreTrees → ObjectKey → Option Entity
entity_in u (EntityKey e) = slice_get u.entities e
entity_in u key = None

abbrev pub is_owned_by : ℕ → Option Entity → Bool
is_owned_by f None = false
is_owned_by f (Some entity) = option_map_or (λ owner. owner == f) entity.owner false

-- all parameters in the order of their locations, and those of one function
abbrev pub all_parameters : CoreTrees → SpaceView → List ObjectKey
all_parameters u s = in_order s (keys_in ParameterRole u.entities) s.count

abbrev pub parameters_of : CoreTrees → SpaceView → ℕ → List ObjectKey
parameters_of u s f = filter (λ key. is_owned_by f (entity_in u key)) (all_parameters u s)

-- the declared type of a function or a parameter
abbrev pub key_id : CoreTrees → ObjectKey → Option TypeId
key_id u (Function k) = library_id k u.entities
key_id u key = option_map (λ entity. entity.ty) (entity_in u key)

abbrev pub type_or_void : Table → Option TypeId → Ctype
type_or_void table id = option_map_or (λ found. type_of table found.0) id VoidType

abbrev pub key_type : CoreTrees → ObjectKey → Ctype
key_type u key = type_or_void u.types (key_id u key)
