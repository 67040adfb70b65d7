-- What a table of types says of members, as a world sees it.
use Rattle.std.specs.Prelude.{ℕ, ◌≡◌, List, Option, None}
use Rattle.c_types.specs.declared.term.MemberTerm.{MemberTerm}
use Rattle.c_types.specs.Trees.{Ctype, StructureOf, UnionOf}
use Rattle.c_types.specs.Table.{Table, members_in}
pub use Rattle.c_inits.specs.Tables.{part_with, part_of, parts_in}
use Rattle.c_senses.specs.World.{World}

-- a world that has the members and the number of tags of a table
pub record IsWorldOf (w : World) (table : Table) : Type 0 where
  pub members : (tag : ℕ) → w.members tag ≡ parts_in table (members_in table tag)
  pub tags : w.tags ≡ table.tags

-- the members of a structure or union of a table, where it is complete
abbrev pub members_in_type : Table → Ctype → Option (List MemberTerm)
members_in_type table (StructureOf tag) = members_in table tag
members_in_type table (UnionOf tag) = members_in table tag
members_in_type table t = None
