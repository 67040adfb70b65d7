-- How objects and functions are named.
use Rattle.std.specs.Prelude.{ℕ, nat_lt, Bool, true, false, codes, List, [], ◌∷◌, ◌++◌, Option, Some, None}
use Rattle.std.specs.Prelude.{slice_get, ◌≡◌, zero, suc}
use Rattle.std.specs.List.{count_by}
use Rattle.std.specs.Option.{unwrap_or}
use Rattle.std.specs.Str.{bytes_eq}
use Rattle.std.specs.Fmt.{decimal}
use Rattle.std.specs.Global.{Vec}
use Rattle.std.specs.BTreeMap.{BTreeMap, get_by}
use Rattle.std.specs.Ordering.{nat_cmp}
use Rattle.std.specs.Cmp.Lexicographic.{slice_cmp}
use Rattle.pta_base.specs.declared.place.Place.{Place}
use Rattle.core_tree.specs.declared.node.Entity.{Entity}
use Rattle.core_tree.specs.declared.node.Linkage.{Linkage}
use Rattle.core_tree.specs.declared.node.Linkage.TheVariants.{External, Internal, Local}

-- the name of a unit
abbrev pub unit_name : List (List ℕ) → ℕ → List ℕ
unit_name units unit = unwrap_or (slice_get units unit) []

-- line and column
abbrev pub spot_text : Place → List ℕ
spot_text place = decimal place.line ++ (codes ":" ++ decimal place.column)

-- what an unnamed object is called: its kind and its place
abbrev pub placed_name : List (List ℕ) → List ℕ → Place → List ℕ
placed_name units kind place = kind ++ (codes "@" ++ (unit_name units place.unit ++ (codes ":" ++ spot_text place)))

-- a dot and a member's name, or its position where it has none
abbrev pub dotted : ℕ → Option (List ℕ) → List ℕ
dotted k None = codes ".#" ++ decimal k
dotted k (Some name) = codes "." ++ name

-- a name with linkage: of an internal one the unit stands before it
abbrev pub linked_in : List (List ℕ) → Linkage → ℕ → List ℕ → List ℕ
linked_in units External unit name = name
linked_in units Internal unit name = unit_name units unit ++ (codes ":" ++ name)
linked_in units Local unit name = name

abbrev pub linked_name : List (List ℕ) → Entity → List ℕ
linked_name units entity = linked_in units entity.linkage entity.unit entity.name

abbrev pub function_named : List (List ℕ) → Option Entity → List ℕ
function_named units None = []
function_named units (Some function) = linked_name units function

-- the name of a local's function
abbrev pub owner_name : List (List ℕ) → List Entity → Option ℕ → List ℕ
owner_name units entities None = []
owner_name units entities (Some f) = function_named units (slice_get entities f)

-- a parameter, or an object in a block without linkage, by its function and its name
abbrev pub local_key_in : Linkage → Option ℕ → List ℕ → Option (List ℕ)
local_key_in Local (Some f) name = Some (f ∷ name)
local_key_in linkage owner name = None

abbrev pub local_key : Entity → Option (List ℕ)
local_key entity = local_key_in entity.linkage entity.owner entity.name

abbrev pub is_key : List ℕ → Option (List ℕ) → Bool
is_key key None = false
is_key key (Some other) = bytes_eq other key

-- how many locals have that function and name
abbrev pub locals_of : List Entity → List ℕ → ℕ
locals_of entities key = count_by (λ entity. is_key key (local_key entity)) entities

abbrev pub twice_in : List Entity → Option (List ℕ) → Bool
twice_in entities None = false
twice_in entities (Some key) = nat_lt 1 (locals_of entities key)

-- whether another local of the function has the name too
abbrev pub stands_twice : List Entity → Entity → Bool
stands_twice entities entity = twice_in entities (local_key entity)

-- the place of a local whose name its function has more than once
abbrev pub told_apart : Bool → Place → List ℕ
told_apart true place = codes "@" ++ spot_text place
told_apart false place = []

abbrev pub local_name : List (List ℕ) → List Entity → Entity → List ℕ
local_name units entities entity =
    owner_name units entities entity.owner
    ++ (codes "/" ++ (entity.name ++ told_apart (stands_twice entities entity) entity.place))

abbrev pub declared_in : List (List ℕ) → List Entity → Entity → Linkage → List ℕ
declared_in units entities entity Local = local_name units entities entity
declared_in units entities entity linkage = linked_in units linkage entity.unit entity.name

-- the name of an entity, which may be a compound literal's
abbrev pub entity_name : List (List ℕ) → List Entity → Bool → Entity → List ℕ
entity_name units entities true entity = placed_name units (codes "lit") entity.place
entity_name units entities false entity = declared_in units entities entity entity.linkage

-- what a variadic function is passed past its parameters, by the function's name
abbrev pub varargs_name : List (List ℕ) → Entity → List ℕ
varargs_name units function = linked_name units function ++ codes "/..."

-- what a map says of a function and a name: nothing of no local, else whether there are two
abbrev pub several : ℕ → Option Bool
several zero = None
several (suc zero) = Some false
several (suc (suc n)) = Some true

-- what a map says of a list
abbrev pub known : BTreeMap (Vec ℕ) Bool → List ℕ → Option Bool
known locals key = get_by (λ k. slice_cmp nat_cmp key k.items) locals

-- a map says how often each function and name stands among these
abbrev pub Says : BTreeMap (Vec ℕ) Bool → List Entity → Type 0
Says locals entities = (key : List ℕ) → known locals key ≡ several (locals_of entities key)
