-- By which trees the nodes of a built unit stand.
use Rattle.std.specs.Prelude.{ℕ, ◌≡◌, ◌<◌, List, length, Some}
use Rattle.core_tree.specs.declared.node.Unit.{Unit}
use Rattle.c_consts.specs.Core.{Core}
use Rattle.c_senses.specs.Tree.{Source}
use Rattle.c_senses.specs.Sense.{Sense}
use Rattle.c_senses.specs.Right.{Declared, Numbering, StandsBy, Within, declared_name}
use Rattle.core_node_laws.specs.built_unit_laws.built_units.Built.{IsBuilt}

-- a tree that is the body of something that is declared by a name, or stands in one
pub record IsInBody (s : Source) (senses : List Sense) (c : Core) : Type 0 where
  pub leaf : ℕ
  pub what : Declared
  pub body : Core
  pub declared : declared_name s senses leaf ≡ Some what
  pub has : what.body ≡ Some body
  pub within : Within s senses c body

-- a node that stands by such a tree
pub record Stands (s : Source) (senses : List Sense) (n : Numbering) (u : Unit) (i : ℕ) : Type 0 where
  pub tree : Core
  pub by : StandsBy n u i tree
  pub in_body : IsInBody s senses tree

abbrev pub NodesStand : Type 0
NodesStand =
    (s : Source) (name : List ℕ) (u : Unit) (b : IsBuilt s name u) (i : ℕ)
    → i < length u.nodes.items
    → Stands s b.senses b.numbering u i
