-- Member lists of units in a table of all their types.
use Rattle.std.specs.Prelude.{ℕ, ◌≡◌, ◌+◌, ◌<◌, ◌⊎◌, List, Some, IsSome, map, slice_get, slice_index}
use Rattle.c_types.specs.declared.term.MemberTerm.{MemberTerm}
use Rattle.c_types.specs.Table.{Table, TagMembers, members_in}
use Rattle.core_tree.specs.declared.node.Unit.{Unit}

-- a member of a unit whose types begin at a number
abbrev pub moved_member : ℕ → MemberTerm → MemberTerm
moved_member start m = record { name = m.name; ty = record { 0 = start + m.ty.0 }; bits = m.bits }

-- the list of a unit's tag that has that number
pub record IsFromUnit (unit : Table) (start : ℕ) (f : ℕ → ℕ) (tag : ℕ) (members : List MemberTerm) : Type 0 where
  pub own : ℕ
  pub number : f own ≡ tag
  pub list : List MemberTerm
  pub list_is : members_in unit own ≡ Some list
  pub members_are : members ≡ map (moved_member start) list

-- the list of a tag of one of the units that has that number
pub record IsFromSome (units : List Unit) (type_starts : List ℕ) (tag : ℕ → ℕ → ℕ) (k : ℕ)
    (members : List MemberTerm) : Type 0 where
  pub number : ℕ
  pub unit : Unit
  pub unit_is : slice_get units number ≡ Some unit
  pub from : IsFromUnit unit.types (slice_index type_starts number) (tag number) k members

-- a table with more lists, which are a unit's
pub record IsCompleted (old now unit : Table) (start : ℕ) (f : ℕ → ℕ) : Type 0 where
  pub terms : now.terms ≡ old.terms
  pub tags : now.tags ≡ old.tags
  pub kept : (tag : ℕ) (members : List MemberTerm)
      → members_in old tag ≡ Some members
      → members_in now tag ≡ Some members
  pub added : (tag : ℕ) (members : List MemberTerm)
      → members_in now tag ≡ Some members
      → (members_in old tag ≡ Some members) ⊎ IsFromUnit unit start f tag members

-- the first so many tags that a unit completed have lists in the table
pub record AreDone (table unit : Table) (f : ℕ → ℕ) (upto : ℕ) : Type 0 where
  pub each : (j : ℕ) (c : TagMembers)
      → j < upto
      → slice_get unit.completed j ≡ Some c
      → IsSome (members_in table (f c.tag))

-- each list of the table is one of a unit's, by its tag's number, and each tag of the first so many units has one
-- where it has one there
pub record AreListed (units : List Unit) (type_starts : List ℕ) (tag : ℕ → ℕ → ℕ) (table : Table)
    (upto : ℕ) : Type 0 where
  pub added : (k : ℕ) (members : List MemberTerm)
      → members_in table k ≡ Some members
      → IsFromSome units type_starts tag k members
  pub done : (u : ℕ) (x : Unit) (own : ℕ)
      → u < upto
      → slice_get units u ≡ Some x
      → IsSome (members_in x.types own)
      → IsSome (members_in table (tag u own))
