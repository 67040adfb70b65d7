-- What a table of types is to its callers.
use Rattle.std.specs.Prelude.{◌≡◌, ℕ, ◌<◌, ◌^◌, ◌+◌, cond, eqb, slice_get, nat_lt, if◌then◌else◌, List, [], ◌∷◌}
use Rattle.std.specs.Prelude.{Option, Some, None, map, length, All}
use Rattle.c_types.specs.declared.term.Term.{Term}
use Rattle.c_types.specs.declared.term.Term.TheVariants.{Pointer, Array, Function, Structure, Union}
use Rattle.c_types.specs.declared.term.MemberTerm.{MemberTerm}
use Rattle.c_types.specs.Trees.{Ctype, tree_at, grown}
use Rattle.c_types.specs.Layout.{Extent, Look, Completed, extent_of, member_extent, looked_up, laid_out}

-- a tag with its list of members
pub record TagMembers : Type 0 where
  pub tag : ℕ
  pub members : List MemberTerm

-- the terms by number, the number of tags, and the completed tags in the order of completion
pub record Table : Type 0 where
  pub terms : List Term
  pub tags : ℕ
  pub completed : List TagMembers

-- the types in the order of their numbers
abbrev pub types_of : Table → List Ctype
types_of table = grown [] table.terms

-- the type of that number
abbrev pub type_of : Table → ℕ → Ctype
type_of table id = tree_at (types_of table) id

-- a term's types are among the first so many
abbrev pub IsAfter : ℕ → Term → Type 0
IsAfter types (Pointer to) = to.0 < types
IsAfter types (Array of length) = of.0 < types
IsAfter types (Function result parameters form) = (result.0 < types) × All (λ id. id.0 < types) parameters
IsAfter types term = Unit {0}

-- a term's tag is among the first so many
abbrev pub HasTag : ℕ → Term → Type 0
HasTag tags (Structure tag) = tag < tags
HasTag tags (Union tag) = tag < tags
HasTag tags term = Unit {0}

-- the completed tags, each with its members' types
abbrev pub completions : Table → List Completed
completions table =
    map (λ c. record { tag = c.tag; types = map (λ m. type_of table m.ty.0) c.members }) table.completed

abbrev pub look_in : Table → Look
look_in table = looked_up (laid_out [] (completions table))

-- what a type takes in that table
abbrev pub extent_in : Table → Ctype → Option Extent
extent_in table t = extent_of (look_in table) t

-- the members of a tag among the completed ones
abbrev pub members_among : List TagMembers → ℕ → Option (List MemberTerm)
members_among [] tag = None
members_among (c ∷ rest) tag = cond (eqb c.tag tag) (Some c.members) (members_among rest tag)

abbrev pub members_in : Table → ℕ → Option (List MemberTerm)
members_in table tag = members_among table.completed tag

-- a size below 2^63
abbrev pub size_below : Option Extent → Option ℕ
size_below None = None
size_below (Some e) = if nat_lt e.size (2 ^ 63) then Some e.size else None

-- an alignment
abbrev pub align_within : Option Extent → Option ℕ
align_within None = None
align_within (Some e) = Some e.align

-- a number of nodes up to 2^24
abbrev pub nodes_within : Option Extent → Option ℕ
nodes_within None = None
nodes_within (Some e) = if nat_lt (length e.nodes) (2 ^ 24 + 1) then Some (length e.nodes) else None

-- the type of the node in that position
abbrev pub node_of : Option Extent → ℕ → Option Ctype
node_of None node = None
node_of (Some e) node = slice_get e.nodes node

-- a term that is no array
abbrev pub NotArray : Term → Type 0
NotArray (Array of length) = ⊥
NotArray term = Unit {0}

-- what members take, in order
abbrev pub extents_in : Table → List MemberTerm → List Extent
extents_in table members = map (member_extent (look_in table)) (map (λ m. type_of table m.ty.0) members)

-- the first id of a type
pub record IsFirstOf (table : Table) (t : Ctype) (id : ℕ) : Type 0 where
  pub known : id < length table.terms
  pub same : type_of table id ≡ t
  pub least : (j : ℕ) → j < id → type_of table j ≡ t → ⊥

-- no id has the type
pub record IsNowhere (table : Table) (t : Ctype) : Type 0 where
  pub none : (j : ℕ) → j < length table.terms → type_of table j ≡ t → ⊥
