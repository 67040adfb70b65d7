-- The members of structures and unions.
use Rattle.std.specs.Prelude.{ℕ, ◌≡◌, List, Option, Some, None, slice_get}
use Rattle.c_types.specs.Trees.{Ctype, StructureOf, UnionOf}
use Rattle.c_types.specs.declared.term.MemberTerm.{MemberTerm}
use Rattle.c_types.specs.Table.{Table, type_of, members_in}

-- the tag of a structure or a union
abbrev pub tag_of : Ctype → Option ℕ
tag_of (StructureOf tag) = Some tag
tag_of (UnionOf tag) = Some tag
tag_of t = None

abbrev pub in_list : Option (List MemberTerm) → ℕ → Option MemberTerm
in_list None k = None
in_list (Some members) k = slice_get members k

-- member k of a complete tag
abbrev pub member_at : Table → Option ℕ → ℕ → Option MemberTerm
member_at table None k = None
member_at table (Some tag) k = in_list (members_in table tag) k

-- member k of a complete structure or union has that type
pub record IsMemberOf (table : Table) (whole : Ctype) (k : ℕ) (t : Ctype) : Type 0 where
  pub member : MemberTerm
  pub stands : member_at table (tag_of whole) k ≡ Some member
  pub type : type_of table member.ty.0 ≡ t

-- the width of a member, where it is a bit-field
abbrev pub width_of : Option MemberTerm → Option ℕ
width_of None = None
width_of (Some m) = m.bits
