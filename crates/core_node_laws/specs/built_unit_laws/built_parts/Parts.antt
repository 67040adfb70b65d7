-- The unit that is put together of the parts of a walk.
use Rattle.std.specs.Prelude.{ℕ, ◌≡◌, List, ◌++◌, map, Option}
use Rattle.core_tree.specs.declared.node.Unit.{Unit}
use Rattle.core_nodes.specs.Standing.{IsReady}
use Rattle.c_senses.specs.Tree.{Source}
use Rattle.c_senses.specs.Sense.{Sense}
use Rattle.c_senses.specs.Right.{InitialisesOnce}
use Rattle.unit_finish.specs.declared.unit_parts.declared.Declared.{Declared}
use Rattle.unit_finish.specs.unit_parts.Renamed.{literals_in}
use Rattle.unit_finish.specs.declared.planted_nodes.planting.Planted.{Planted}
use Rattle.unit_finish.specs.planted_nodes.Planted.{IsPlanted}
use Rattle.unit_finish.specs.declared.keeping.Kept.{Kept}
use Rattle.unit_finish.specs.Complete.{IsKept, IsNamedWhole, IsMadeOf}
use Rattle.unit_finish.specs.Walked.{IsWalked, literal_entry}
use Rattle.core_node_laws.specs.built_unit_laws.built_units.Built.{IsBuilt}

-- the parts of a walk over a whole tree, with their nodes made anew, and the unit that is made of them, of which it
-- isn't asked whether it is valid
pub record IsPut (s : Source) (name : List ℕ) (u : Unit) : Type 0 where
  pub senses : List Sense
  pub walked : Unit
  pub keys : List (Option (List ℕ))
  pub names : List Declared
  pub kept : Kept
  pub list : List Declared
  pub ready : IsReady walked
  pub made : IsWalked s senses walked keys names
  pub stay : IsKept walked.nodes.items names kept
  pub declared : list ≡ kept.names.items ++ map (literal_entry s senses) (literals_in kept.nodes.items)
  pub planted : Planted
  pub are_planted : IsPlanted kept.nodes.items list planted
  pub names_whole : IsNamedWhole planted.nodes.items planted.list.items
  pub is_made : IsMadeOf name s.unit walked.types keys planted.nodes.items planted.list.items u
  pub initialises_once : InitialisesOnce u

-- the same, of which it isn't asked whether each initialiser is its entity's body
pub record ArePut (s : Source) (name : List ℕ) (u : Unit) : Type 0 where
  pub senses : List Sense
  pub walked : Unit
  pub keys : List (Option (List ℕ))
  pub names : List Declared
  pub kept : Kept
  pub list : List Declared
  pub ready : IsReady walked
  pub made : IsWalked s senses walked keys names
  pub stay : IsKept walked.nodes.items names kept
  pub declared : list ≡ kept.names.items ++ map (literal_entry s senses) (literals_in kept.nodes.items)
  pub planted : Planted
  pub are_planted : IsPlanted kept.nodes.items list planted
  pub names_whole : IsNamedWhole planted.nodes.items planted.list.items
  pub is_made : IsMadeOf name s.unit walked.types keys planted.nodes.items planted.list.items u

abbrev pub PartsAreBuilt : Type 0
PartsAreBuilt = (s : Source) (name : List ℕ) (u : Unit) → IsPut s name u → IsBuilt s name u
