-- What is true of every table of types.
use Rattle.std.specs.Prelude.{◌≡◌, ℕ, ◌+◌, ◌*◌, ◌<◌, ◌≤◌, ◌⊎◌, Bool, ◌||◌, nat_eq, IsTrue, IsSome, List, take}
use Rattle.std.specs.Prelude.{Option, Some, None, length, slice_get}
use Rattle.std.specs.Option.{option_map}
use Rattle.c_types.specs.declared.term.Term.{Term}
use Rattle.c_types.specs.declared.term.Term.TheVariants.{Integer, Structure, Union}
use Rattle.c_types.specs.declared.term.MemberTerm.{MemberTerm}
use Rattle.c_types.specs.Trees.{Ctype, BoolType, IntegerType, ArrayOf}
use Rattle.c_types.specs.Table.{Table, TagMembers, IsAfter, HasTag, type_of, look_in, extent_in, members_in}
use Rattle.c_types.specs.Table.{extents_in}

-- the sizes of integer types
abbrev pub is_integer_size : ℕ → Bool
is_integer_size size = nat_eq size 1 || nat_eq size 2 || nat_eq size 4 || nat_eq size 8

-- an integer's size is one of these
abbrev pub IsSized : Term → Type 0
IsSized (Integer size rank signed) = IsTrue (is_integer_size size)
IsSized term = Unit {0}

-- a term's tag stands in no term with the other keyword
abbrev pub KeepsApart : List Term → Term → Type 0
KeepsApart terms (Structure tag) = (i : ℕ) → slice_get terms i ≡ Some (Union tag) → ⊥
KeepsApart terms (Union tag) = (i : ℕ) → slice_get terms i ≡ Some (Structure tag) → ⊥
KeepsApart terms term = Unit {0}

-- no tag stands both in a structure and in a union
pub record TagsApart (terms : List Term) : Type 0 where
  pub each : (i j tag : ℕ) → slice_get terms i ≡ Some (Structure tag) → slice_get terms j ≡ Some (Union tag) → ⊥

abbrev pub StandsAsStructure : List Term → ℕ → Type 0
StandsAsStructure terms tag = (i : ℕ) × (slice_get terms i ≡ Some (Structure tag))

abbrev pub StandsAsUnion : List Term → ℕ → Type 0
StandsAsUnion terms tag = (i : ℕ) × (slice_get terms i ≡ Some (Union tag))

-- a complete object type: one that has a size
abbrev pub IsComplete : Table → Ctype → Type 0
IsComplete table t = IsSome (extent_in table t)

-- an array without a length, of a complete object type
abbrev pub IsFlexible : Table → Ctype → Type 0
IsFlexible table (ArrayOf of None) = IsSome (extent_in table of)
IsFlexible table t = ⊥

-- the width of a bit-field: from 1 to the bits of its integer type
abbrev pub HasWidth : Ctype → ℕ → Type 0
HasWidth BoolType bits = (1 ≤ bits) × (bits ≤ 8)
HasWidth (IntegerType size rank signed) bits = (1 ≤ bits) × (bits ≤ 8 * size)
HasWidth t bits = ⊥

abbrev pub HasBits : Ctype → Option ℕ → Type 0
HasBits t None = Unit {0}
HasBits t (Some bits) = HasWidth t bits

-- a flexible array stands last in a structure, after another member
pub record IsLastFlexible (table : Table) (tag : ℕ) (members : List MemberTerm) (k : ℕ) (t : Ctype) : Type 0 where
  pub flexible : IsFlexible table t
  pub after : 0 < k
  pub last : k + 1 ≡ length members
  pub structure : StandsAsStructure table.terms tag

-- what a tag may have as its member in position k
pub record IsMember (table : Table) (tag : ℕ) (members : List MemberTerm) (k : ℕ) (m : MemberTerm) : Type 0 where
  pub object : IsComplete table (type_of table m.ty.0) ⊎ IsLastFlexible table tag members k (type_of table m.ty.0)
  pub bits : HasBits (type_of table m.ty.0) m.bits

abbrev pub AreMembers : Table → ℕ → List MemberTerm → Type 0
AreMembers table tag members =
    (k : ℕ) (m : MemberTerm)
    → slice_get members k ≡ Some m
    → (m.ty.0 < length table.terms) × IsMember table tag members k m

-- a tag that stands in no term and isn't complete
pub record IsFresh (table : Table) (tag : ℕ) : Type 0 where
  pub incomplete : members_in table tag ≡ None
  pub no_structure : (i : ℕ) → slice_get table.terms i ≡ Some (Structure tag) → ⊥
  pub no_union : (i : ℕ) → slice_get table.terms i ≡ Some (Union tag) → ⊥

-- members of complete types without bit-fields
abbrev pub ArePlain : Table → List MemberTerm → Type 0
ArePlain table members =
    (k : ℕ) (m : MemberTerm)
    → slice_get members k ≡ Some m
    → (m.ty.0 < length table.terms) × IsComplete table (type_of table m.ty.0) × (m.bits ≡ None)

-- each term's types come before it, and its tag is the table's
abbrev pub AreNamed : Table → Type 0
AreNamed table = (i : ℕ) (t : Term) → slice_get table.terms i ≡ Some t → IsAfter i t × HasTag table.tags t

-- the table when so many of its tags were complete
abbrev pub earlier : Table → ℕ → Table
earlier table k = record table { completed = take k table.completed }

-- what every table keeps
pub record IsMade (table : Table) : Type 0 where
  pub sizes : (i : ℕ) (t : Term) → slice_get table.terms i ≡ Some t → IsSized t
  pub apart : TagsApart table.terms
  pub stands : (tag : ℕ) (members : List MemberTerm)
      → members_in table tag ≡ Some members
      → StandsAsStructure table.terms tag ⊎ StandsAsUnion table.terms tag
  pub members : (tag : ℕ) (members : List MemberTerm)
      → members_in table tag ≡ Some members
      → AreMembers table tag members
  -- what a tag has as members was complete before the tag was
  pub ordered : (k : ℕ) (c : TagMembers)
      → slice_get table.completed k ≡ Some c
      → AreMembers (earlier table k) c.tag c.members
  -- a tag is laid out from its members as they are in this very table
  pub laid : (tag : ℕ) → look_in table tag ≡ option_map (extents_in table) (members_in table tag)
