-- What it is to lower a text to its unit.
use Rattle.std.specs.Prelude.{ℕ, List}
use Rattle.c_types.specs.Made.{IsMade, AreNamed}
use Rattle.core_tree.specs.declared.node.Unit.{Unit}
use Rattle.core_nodes.specs.Once.{HasOnce}
use Rattle.c_senses.specs.Tree.{Source}
use Rattle.c_senses.specs.Names.{numbered}
use Rattle.c_senses.specs.Right.{Right}
use Rattle.struct_rows.specs.Built.{HasTagTypes}
use Rattle.unit_walk.specs.Walked.{AreDense}

-- a unit's table is one that its own functions made, and has the type of each tag of the source, with the keyword
-- of the tag's first specifier, and no type twice
pub record HasTags (s : Source) (u : Unit) : Type 0 where
  pub types : HasTagTypes s u.types
  pub made : IsMade u.types
  pub named : AreNamed u.types
  pub once : HasOnce u.types

-- the unit is what the source says, with the numbers of its tags, and has their types
pub record IsLowered (s : Source) (name : List ℕ) (u : Unit) : Type 0 where
  pub tag_number : ℕ → ℕ
  pub dense : AreDense (numbered tag_number s)
  pub right : Right (numbered tag_number s) name u
  pub tags : HasTags (numbered tag_number s) u
