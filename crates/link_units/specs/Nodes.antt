-- The nodes of units in a program.
use Rattle.std.specs.Prelude.{ℕ, ◌≡◌, ◌+◌, ◌^◌, ◌<◌, ◌≤◌, List, Some, map, length, slice_get, slice_index}
use Rattle.core_tree.specs.declared.node.Unit.{Unit}
use Rattle.core_tree.specs.declared.node.Node.{Node}
use Rattle.unit_link.specs.Places.{IsPlaced}
use Rattle.unit_link.specs.declared.link_program.numbers.EntityNumbers.{EntityNumbers}
use Rattle.unit_link.specs.link_program.Rows.{entity_in}
use Rattle.link_units.specs.link_whole.Placed.{AreNamed}

abbrev pub node_counts_of : List Unit → List ℕ
node_counts_of units = map (λ x. length x.nodes.items) units

-- a node stands in a program with its unit's types, nodes and entities moved
pub record StandsMoved (types start : ℕ) (entities : ℕ → ℕ) (list : List Node) (at : ℕ) (x : Node) : Type 0 where
  pub node : Node
  pub node_is : slice_get list at ≡ Some node
  pub placed : IsPlaced types start entities x node

-- a unit's nodes, behind those that there were
pub record AreAdded (types start : ℕ) (entities : ℕ → ℕ) (nodes old now : List Node) : Type 0 where
  pub count : length now ≡ length old + length nodes
  pub kept : (i : ℕ) (m : Node) → slice_get old i ≡ Some m → slice_get now i ≡ Some m
  pub each : (n : ℕ) (x : Node)
      → slice_get nodes n ≡ Some x
      → StandsMoved types start entities now (length old + n) x

-- the nodes of a unit have their types and entities in the program
pub record IsPlaceable (type_starts : List ℕ) (n : EntityNumbers) (u : ℕ) (x : Unit) : Type 0 where
  pub types_start : u < length type_starts
  pub entities_start : u < length n.starts.items
  pub entities : slice_index n.starts.items u + length x.entities.items ≤ length n.numbers.items
  pub types : (i : ℕ) (node : Node)
      → slice_get x.nodes.items i ≡ Some node
      → slice_index type_starts u + node.ty.0 < 2 ^ 32
  pub named : AreNamed (length x.entities.items) x.nodes.items

pub record ArePlaceable (units : List Unit) (type_starts : List ℕ) (n : EntityNumbers) : Type 0 where
  pub each : (u : ℕ) (x : Unit) → slice_get units u ≡ Some x → IsPlaceable type_starts n u x

-- the nodes of the first so many units, in order
pub record AreNodesOf (units : List Unit) (type_starts node_starts : List ℕ) (n : EntityNumbers) (upto : ℕ)
    (list : List Node) : Type 0 where
  pub count : length list ≡ slice_index node_starts upto
  pub each : (u i : ℕ) (x : Unit) (node : Node)
      → u < upto
      → slice_get units u ≡ Some x
      → slice_get x.nodes.items i ≡ Some node
      → StandsMoved (slice_index type_starts u) (slice_index node_starts u)
      (entity_in n.starts.items n.numbers.items u) list (slice_index node_starts u + i) node

-- the nodes of the unit of a position, with all that they name in range
pub record AreUnitNodes (type_starts node_starts : List ℕ) (n : EntityNumbers) (u : ℕ)
    (nodes : List Node) : Type 0 where
  pub entities : ℕ
  pub types_start : u < length type_starts
  pub nodes_start : u + 1 < length node_starts
  pub entities_start : u < length n.starts.items
  pub within : slice_index n.starts.items u + entities ≤ length n.numbers.items
  pub types : (i : ℕ) (node : Node) → slice_get nodes i ≡ Some node → slice_index type_starts u + node.ty.0 < 2 ^ 32
  pub named : AreNamed entities nodes
  pub step : slice_index node_starts (u + 1) ≡ slice_index node_starts u + length nodes
