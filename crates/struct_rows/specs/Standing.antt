-- Where the type of a tag stands in a table, and what a completed tag takes.
use Rattle.std.specs.Prelude.{ℕ, ◌≡◌, ◌<◌, Bool, true, false, List}
use Rattle.c_types.specs.Table.{Table, type_of, extent_in}
use Rattle.c_types.specs.Made.{StandsAsStructure, StandsAsUnion}
use Rattle.core_tree.specs.declared.node.Unit.{Unit}
use Rattle.c_inits.specs.Made.{Part}
use Rattle.c_senses.specs.Sense.{Sense, IsMembers}
use Rattle.c_senses.specs.Limits.{is_small}
use Rattle.struct_rows.specs.Completes.{Completes}

-- a term is the structure, or the union, of a tag of the table
pub record StandsTagged (table : Table) (tag : ℕ) (is_union : Bool) : Type 0 where
  pub tag_is : tag < table.tags
  pub structure : is_union ≡ false → StandsAsStructure table.terms tag
  pub union : is_union ≡ true → StandsAsUnion table.terms tag

-- a tag that has been completed is small
abbrev pub IsSmallTag : Table → ℕ → Type 0
IsSmallTag table tag = is_small (extent_in table (type_of table tag)) ≡ true

-- the members that were made for a list complete the tag
pub record CompletesBy (old new : Unit) (tag : ℕ) (made : Sense) : Type 0 where
  pub parts : List Part
  pub made_are : made ≡ IsMembers parts
  pub completes : Completes old new tag parts
