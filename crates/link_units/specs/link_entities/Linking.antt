-- What is known of units that are linked.
use Rattle.std.specs.Prelude.{ℕ, ◌≡◌, ◌<◌, List, Some, map, length, slice_get}
use Rattle.core_tree.specs.declared.node.Unit.{Unit}
use Rattle.core_tree.specs.Typed.{trees_of}
use Rattle.core_tree.specs.Range.{InRange}
use Rattle.link_model.specs.link_types.Starts.{AreSums}
use Rattle.link_names.specs.Scene.{IsScene, joined_of}
use Rattle.link_names.specs.Names.{AreNames}
use Rattle.link_units.specs.link_makers.Made.{AreMakers}
use Rattle.unit_link.specs.link_program.Rows.{AreEntityNumbers}
use Rattle.unit_link.specs.link_program.Ready.{AreReady}
use Rattle.link_units.specs.declared.link_entities.entities.Linking.{Linking}
use Rattle.link_units.specs.link_entities.Uses.{AreUses}

pub record IsLinking (k : Linking) : Type 0 where
  pub scene : IsScene k.scene.now
  pub ready : AreReady k.scene.now.types.now
  pub ranges : (u : ℕ) (x : Unit) → slice_get k.scene.now.units.now u ≡ Some x → InRange (trees_of x)
  pub numbers : AreEntityNumbers k.scene.now.units.now k.numbers.now
  pub names : AreNames (joined_of k.scene.now) k.scene.now.declared.now k.names.now
  pub makers : AreMakers (joined_of k.scene.now) k.scene.now.declared.now k.makers.now
  pub uses : AreUses k.scene.now.units.now k.scene.now.declared.now k.scene.now.declared.now k.uses.now
  pub nodes : AreSums (map (λ (x : Unit). length x.nodes.items) k.scene.now.units.now) k.node_starts.now

-- a unit has a node of that number
pub record HasNode (units : List Unit) (u node : ℕ) : Type 0 where
  pub unit : Unit
  pub unit_is : slice_get units u ≡ Some unit
  pub within : node < length unit.nodes.items
