-- What stays of a table that gets types, tags, and members of tags.
use Rattle.std.specs.Prelude.{ℕ, ◌≡◌, ◌<◌, ◌≤◌, List, length, Some}
use Rattle.c_types.specs.declared.term.MemberTerm.{MemberTerm}
use Rattle.c_types.specs.Layout.{Extent}
use Rattle.c_types.specs.Trees.{Ctype}
use Rattle.c_types.specs.Table.{Table, type_of, members_in, extent_in}

-- the types stay, and so do the members of each tag that has them, and what each complete type takes
pub record IsWider (old new : Table) : Type 0 where
  pub terms : length old.terms ≤ length new.terms
  pub types : (id : ℕ) → id < length old.terms → type_of new id ≡ type_of old id
  pub tags : old.tags ≤ new.tags
  pub members : (tag : ℕ) (members : List MemberTerm)
      → members_in old tag ≡ Some members
      → members_in new tag ≡ Some members
  pub extents : (t : Ctype) (e : Extent) → extent_in old t ≡ Some e → extent_in new t ≡ Some e
