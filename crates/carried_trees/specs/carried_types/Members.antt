-- Members of the tags of one table in another.
use Rattle.std.specs.Prelude.{ℕ, ◌≡◌, ◌<◌, ◌⊎◌, Bool, true, false, ◌&&◌, List, [], ◌∷◌, map, get_or, slice_get}
use Rattle.std.specs.Prelude.{IsSome, Option, Some, None, option_and_then}
use Rattle.c_types.specs.declared.term.MemberTerm.{MemberTerm}
use Rattle.c_types.specs.declared.term.Term.{Term}
use Rattle.c_types.specs.declared.term.Term.TheVariants.{Structure, Union}
use Rattle.c_types.specs.Layout.{Extent}
use Rattle.c_types.specs.Trees.{Ctype, StructureOf, UnionOf}
use Rattle.c_types.specs.Table.{Table, TagMembers, members_in, extent_in}
use Rattle.c_inits.specs.Made.{Part}
use Rattle.c_inits.specs.Tables.{part_of}
use Rattle.carried_trees.specs.carried_types.Types.{carried_type, is_given_type}
use Rattle.carried_trees.specs.carried_types.Terms.{id_in}

-- the number of a tag's type
abbrev pub tag_named : Ctype → Option ℕ
tag_named (StructureOf k) = Some k
tag_named (UnionOf k) = Some k
tag_named t = None

-- the number that a tag has in the other table, where it has a type there
abbrev pub number_of : (ℕ → Option Ctype) → ℕ → Option ℕ
number_of tag k = option_and_then tag_named (tag k)

-- each tag that has a type there has that of a tag
abbrev pub AreTagged : (ℕ → Option Ctype) → Type 0
AreTagged tag = (k : ℕ) (t : Ctype) → tag k ≡ Some t → IsSome (tag_named t)

-- a tag there by its type, and one here that is its own type's number, have one keyword
abbrev pub HaveKeyword : List Term → ℕ → ℕ → List Term → ℕ → Type 0
HaveKeyword there id number here tag =
    ((slice_get there id ≡ Some (Structure number)) × (slice_get here tag ≡ Some (Structure tag)))
    ⊎ ((slice_get there id ≡ Some (Union number)) × (slice_get here tag ≡ Some (Union tag)))

-- a member with its type there, and whether each tag in the types of members has one
abbrev pub carried_part : (ℕ → Option Ctype) → Part → Part
carried_part tag p = record { name = p.name; type = carried_type tag p.type; bits = p.bits }

abbrev pub are_given_parts : (ℕ → Option Ctype) → List Part → Bool
are_given_parts tag [] = true
are_given_parts tag (p ∷ rest) = is_given_type tag p.type && are_given_parts tag rest

-- a member under the number that its type has there
abbrev pub moved_member : List ℕ → MemberTerm → MemberTerm
moved_member ids m = record { name = m.name; ty = id_in ids m.ty; bits = m.bits }

-- whether the types of members are given, by the flags of types
abbrev pub are_flagged : List Bool → List MemberTerm → Bool
are_flagged given [] = true
are_flagged given (m ∷ rest) = get_or given m.ty.0 false && are_flagged given rest

-- the members of a tag that has that number, carried
pub record AreFrom (tag : ℕ → Option Ctype) (from new : Table) (number : ℕ)
    (members : List MemberTerm) : Type 0 where
  pub own : ℕ
  pub is : number_of tag own ≡ Some number
  pub list : List MemberTerm
  pub list_is : members_in from own ≡ Some list
  pub carried : map (part_of new) members ≡ map (carried_part tag) (map (part_of from) list)

-- a table in which more tags have members, those of another one
pub record AreAdded (tag : ℕ → Option Ctype) (from old new : Table) : Type 0 where
  pub terms : new.terms ≡ old.terms
  pub tags : new.tags ≡ old.tags
  pub kept : (number : ℕ) (members : List MemberTerm)
      → members_in old number ≡ Some members
      → members_in new number ≡ Some members
  pub extents : (t : Ctype) (e : Extent) → extent_in old t ≡ Some e → extent_in new t ≡ Some e
  pub added : (number : ℕ) (members : List MemberTerm)
      → members_in new number ≡ Some members
      → (members_in old number ≡ Some members) ⊎ AreFrom tag from new number members

-- each of the first so many tags that one table completed has members in the other, where it has a number there
abbrev pub AreDone : (ℕ → Option Ctype) → Table → Table → ℕ → Type 0
AreDone tag from new count =
    (j : ℕ) (c : TagMembers) (number : ℕ)
    → j < count
    → slice_get from.completed j ≡ Some c
    → number_of tag c.tag ≡ Some number
    → IsSome (members_in new number)

-- the same of each tag
abbrev pub AreComplete : (ℕ → Option Ctype) → Table → Table → Type 0
AreComplete tag from new =
    (k number : ℕ) → number_of tag k ≡ Some number → IsSome (members_in from k) → IsSome (members_in new number)

-- a tag that has a number, but no members there, has a member of a type that isn't given
pub record Lacks (tag : ℕ → Option Ctype) (from old : Table) : Type 0 where
  pub own : ℕ
  pub number : ℕ
  pub is : number_of tag own ≡ Some number
  pub was_open : members_in old number ≡ None
  pub list : List MemberTerm
  pub list_is : members_in from own ≡ Some list
  pub lacks : are_given_parts tag (map (part_of from) list) ≡ false
