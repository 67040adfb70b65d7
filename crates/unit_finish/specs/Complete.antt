-- What it is to complete a unit out of nodes and of what is declared.
use Rattle.std.specs.Prelude.{ℕ, ◌≡◌, IsTrue, Bool, List, Option, map, All}
use Rattle.c_types.specs.Table.{Table}
use Rattle.core_tree.specs.declared.node.Node.{Node}
use Rattle.core_tree.specs.declared.node.Unit.{Unit}
use Rattle.core_tree.specs.Valid.{ValidUnit}
use Rattle.c_senses.specs.Right.{InitialisesOnce}
use Rattle.unit_finish.specs.declared.unit_parts.declared.Declared.{Declared}
use Rattle.unit_finish.specs.unit_parts.Marked.{AreMarked}
use Rattle.unit_finish.specs.unit_parts.Numbered.{numbered_from, kept_of}
use Rattle.unit_finish.specs.unit_parts.Renamed.{is_known, renamed_node}
use Rattle.unit_finish.specs.unit_parts.Entities.{numbering_of, EachApart, is_owner_known, bodies_of}
use Rattle.unit_finish.specs.unit_parts.Entities.{with_moved_body, entities_from}
use Rattle.unit_finish.specs.declared.planted_nodes.planting.Planted.{Planted}
use Rattle.unit_finish.specs.planted_nodes.Planted.{IsPlanted}
use Rattle.unit_finish.specs.declared.keeping.Kept.{Kept}

-- of the nodes those under the bodies of what is declared stay, in order
pub record IsKept (nodes : List Node) (names : List Declared) (kept : Kept) : Type 0 where
  pub marks : List Bool
  pub are_marked : AreMarked nodes (bodies_of names) marks
  pub nodes_are : kept.nodes.items ≡ kept_of nodes (numbered_from 0 marks)
  pub names_are : kept.names.items ≡ map (with_moved_body (numbered_from 0 marks)) names

-- no two of what is declared have one leaf, and each entity that is named is declared
pub record IsNamedWhole (nodes : List Node) (list : List Declared) : Type 0 where
  pub apart : EachApart list
  pub owners : All (λ x. IsTrue (is_owner_known (numbering_of list) x.owner)) list
  pub known : All (λ node. IsTrue (is_known (numbering_of list) node.kind)) nodes

-- a unit with these types, tags, nodes and entities
pub record IsMadeOf (name : List ℕ) (number : ℕ) (types : Table) (keys : List (Option (List ℕ)))
    (nodes : List Node) (list : List Declared) (u : Unit) : Type 0 where
  pub named : u.name ≡ name
  pub types_are : u.types ≡ types
  pub tags_are : u.tags.items ≡ keys
  pub nodes_are : u.nodes.items ≡ map (renamed_node (numbering_of list)) nodes
  pub entities_are : u.entities.items ≡ entities_from number (numbering_of list) u.nodes.items 0 list

-- A unit of these nodes and entities, whose names are whole, where each Initialise is its entity's body, and all
-- that a unit is asked holds.
pub record IsUnitOf (name : List ℕ) (number : ℕ) (types : Table) (keys : List (Option (List ℕ)))
    (nodes : List Node) (list : List Declared) (u : Unit) : Type 0 where
  pub made : IsMadeOf name number types keys nodes list u
  pub names_whole : IsNamedWhole nodes list
  pub initialises_once : InitialisesOnce u
  pub valid : ValidUnit u

-- whatever unit is made of these nodes and entities is one of them: their names are whole, and in each such unit
-- each Initialise is its entity's body, and all that a unit is asked holds
pub record MakesUnits (name : List ℕ) (number : ℕ) (types : Table) (keys : List (Option (List ℕ)))
    (nodes : List Node) (list : List Declared) : Type 0 where
  pub names_whole : IsNamedWhole nodes list
  pub initialises_once : (u : Unit) → IsMadeOf name number types keys nodes list u → InitialisesOnce u
  pub valid : (u : Unit) → IsMadeOf name number types keys nodes list u → ValidUnit u

-- so it is of all nodes that are made anew from these
abbrev pub AlwaysCompletes : List ℕ → ℕ → Table → List (Option (List ℕ)) → List Node → List Declared → Type 0
AlwaysCompletes name number types keys nodes list =
    (planted : Planted)
    → IsPlanted nodes list planted
    → MakesUnits name number types keys planted.nodes.items planted.list.items

-- a unit of nodes that are made anew from these
pub record Completes (name : List ℕ) (number : ℕ) (types : Table) (keys : List (Option (List ℕ)))
    (nodes : List Node) (list : List Declared) (u : Unit) : Type 0 where
  pub planted : Planted
  pub are_planted : IsPlanted nodes list planted
  pub is_unit : IsUnitOf name number types keys planted.nodes.items planted.list.items u
