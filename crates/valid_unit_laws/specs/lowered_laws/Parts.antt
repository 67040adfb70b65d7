-- What the walk over a whole tree gives, from which its unit is completed.
use Rattle.std.specs.Prelude.{ℕ, List, ◌++◌, map, Option}
use Rattle.c_types.specs.Made.{IsMade, AreNamed}
use Rattle.core_tree.specs.declared.node.Node.{Node}
use Rattle.core_tree.specs.declared.node.Unit.{Unit}
use Rattle.core_nodes.specs.Standing.{IsReady}
use Rattle.c_senses.specs.Tree.{Source}
use Rattle.c_senses.specs.Sense.{Sense}
use Rattle.struct_rows.specs.Built.{HasTagTypes}
use Rattle.unit_finish.specs.declared.unit_parts.declared.Declared.{Declared}
use Rattle.unit_finish.specs.unit_parts.Renamed.{literals_in}
use Rattle.unit_finish.specs.own_bodies.Own.{HaveOwnBodies}
use Rattle.unit_finish.specs.declared.keeping.Kept.{Kept}
use Rattle.unit_finish.specs.Complete.{IsKept}
use Rattle.unit_finish.specs.Walked.{IsWalked, literal_entry}

-- what is declared is a list in which automatic objects have the bodies that are found for their leaves
abbrev pub AreOwned : List Node → List Declared → Type 0
AreOwned nodes names = (list : List Declared) × HaveOwnBodies nodes list names

-- the rows of all nodes fit: their senses, a unit that has their types and nodes, the keys of the tags, what the
-- names declare, and of the nodes those under the bodies of that; the table of types is one that its own functions
-- made, with a type for each tag
pub record AreParts (s : Source) : Type 0 where
  pub senses : List Sense
  pub walked : Unit
  pub keys : List (Option (List ℕ))
  pub names : List Declared
  pub kept : Kept
  pub ready : IsReady walked
  pub made : IsWalked s senses walked keys names
  pub owned : AreOwned walked.nodes.items names
  pub tag_types : HasTagTypes s walked.types
  pub table : IsMade walked.types
  pub terms : AreNamed walked.types
  pub stay : IsKept walked.nodes.items names kept

-- what names and compound literals declare
abbrev pub declared_in : (s : Source) → AreParts s → List Declared
declared_in s p = p.kept.names.items ++ map (literal_entry s p.senses) (literals_in p.kept.nodes.items)
