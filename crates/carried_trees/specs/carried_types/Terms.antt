-- Terms of one table over the types of another.
use Rattle.std.specs.Prelude.{ℕ, ◌≡◌, ◌<◌, ◌≤◌, Bool, true, false, ◌&&◌, List, [], ◌∷◌, length, get_or, map, Option}
use Rattle.std.specs.Prelude.{Some, None, is_some, option_map, option_and_then}
use Rattle.c_types.specs.declared.term.Term.{Term}
use Rattle.c_types.specs.declared.term.Term.TheVariants.{Void, Pointer, Array, Function, Structure, Union}
use Rattle.c_types.specs.declared.term.TypeId.{TypeId}
use Rattle.c_types.specs.Trees.{Ctype, grow}
use Rattle.c_types.specs.Table.{Table, types_of, type_of, extent_in}
use Rattle.core_nodes.specs.Once.{HasOnce}
use Rattle.carried_trees.specs.carried_types.Types.{carried_type, is_given_type}

-- the number of a type in the other table
abbrev pub id_in : List ℕ → TypeId → TypeId
id_in ids id = record { 0 = get_or ids id.0 0 }

-- a term over those numbers, but for a tag
abbrev pub moved_term : List ℕ → Term → Term
moved_term ids (Pointer to) = Pointer (id_in ids to)
moved_term ids (Array of length) = Array (id_in ids of) length
moved_term ids (Function result parameters form) = Function (id_in ids result) (map (id_in ids) parameters) form
moved_term ids (Structure tag) = Void
moved_term ids (Union tag) = Void
moved_term ids term = term

-- the tag that a term names, and the number of the type that a list has for it
abbrev pub tag_in : Term → Option ℕ
tag_in (Structure tag) = Some tag
tag_in (Union tag) = Some tag
tag_in term = None

abbrev pub tag_id : List (Option ℕ) → Term → Option ℕ
tag_id tags term = option_and_then (λ tag. get_or tags tag None) (tag_in term)

-- the type of a tag in a table, by such a list
abbrev pub tag_type : Table → List (Option ℕ) → ℕ → Option Ctype
tag_type table tags tag = option_map (λ id. type_of table id) (get_or tags tag None)

-- the type of a term there
abbrev pub type_or : Table → Ctype → Option ℕ → Ctype
type_or table t None = t
type_or table t (Some id) = type_of table id

abbrev pub term_type : Table → List ℕ → List (Option ℕ) → Term → Ctype
term_type table ids tags term = type_or table (grow (types_of table) (moved_term ids term)) (tag_id tags term)

-- whether each tag in it has a type there, by the types before
abbrev pub all_in : List Bool → List TypeId → Bool
all_in given [] = true
all_in given (id ∷ rest) = get_or given id.0 false && all_in given rest

abbrev pub is_given_term : List Bool → List (Option ℕ) → Term → Bool
is_given_term given tags (Pointer to) = get_or given to.0 false
is_given_term given tags (Array of length) = get_or given of.0 false
is_given_term given tags (Function result parameters form) = get_or given result.0 false && all_in given parameters
is_given_term given tags (Structure tag) = is_some (get_or tags tag None)
is_given_term given tags (Union tag) = is_some (get_or tags tag None)
is_given_term given tags term = true

-- the first so many types of one table have these numbers in another, and are given so
pub record AreTypes (tag : ℕ → Option Ctype) (old : Table) (count : ℕ) (ids : List ℕ) (given : List Bool)
    (new : Table) : Type 0 where
  pub long : length ids ≡ count
  pub flags : length given ≡ count
  pub within : (j : ℕ) → j < count → get_or ids j 0 < length new.terms
  pub types : (j : ℕ) → j < count → type_of new (get_or ids j 0) ≡ carried_type tag (type_of old j)
  pub given_are : (j : ℕ) → j < count → get_or given j false ≡ is_given_type tag (type_of old j)

-- the numbers of a list are those of types
abbrev pub AreIds : List ℕ → Table → Type 0
AreIds ids table = (j : ℕ) → j < length ids → get_or ids j 0 < length table.terms

abbrev pub IsIdIn : Table → Option ℕ → Type 0
IsIdIn table None = Unit {0}
IsIdIn table (Some id) = id < length table.terms

abbrev pub AreTagIds : List (Option ℕ) → Table → Type 0
AreTagIds tags table = (tag : ℕ) → IsIdIn table (get_or tags tag None)

-- a table with more types
pub record IsGrown (old new : Table) : Type 0 where
  pub terms : length old.terms ≤ length new.terms
  pub types : (id : ℕ) → id < length old.terms → type_of new id ≡ type_of old id
  pub tags : new.tags ≡ old.tags
  pub completed : new.completed ≡ old.completed
  pub extents : (t : Ctype) → extent_in new t ≡ extent_in old t
  pub once : HasOnce old → HasOnce new
