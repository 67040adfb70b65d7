-- The entities of all units in a row, and their numbers in the program.
use Rattle.std.specs.Prelude.{ℕ, ◌≡◌, ◌+◌, ◌<◌, ◌≤◌, ◌↔◌, cond, List, Option, Some, None, length, map, take, sum_by}
use Rattle.std.specs.Prelude.{slice_index}
use Rattle.std.specs.List.{flat_map}
use Rattle.core_tree.specs.declared.node.Unit.{Unit}
use Rattle.core_tree.specs.declared.node.Entity.{Entity}
use Rattle.link_model.specs.declared.item.Item.{Item}
use Rattle.link_names.specs.Externals.{is_external, entity_at}
use Rattle.link_model.specs.link_types.Leaders.{AreLeaders, AreNumbers}
use Rattle.link_model.specs.link_types.Starts.{AreSums}
use Rattle.unit_link.specs.Linked.{Entities, entity_of, OneEntity}
use Rattle.unit_link.specs.link_program.Alike.{AreAlike}
use Rattle.unit_link.specs.declared.link_program.numbers.EntityNumbers.{EntityNumbers}

-- all entities, unit by unit
abbrev pub all_entities : List Unit → List Entity
all_entities units = flat_map (λ x. x.entities.items) units

-- a declaration of an external name is labelled by that name
abbrev pub label_of : Entity → Option (List ℕ)
label_of x = cond (is_external x) (Some x.name) None

abbrev pub counts_of : List Unit → List ℕ
counts_of units = map (λ x. length x.entities.items) units

-- the number of each entity of each unit
abbrev pub entity_in : List ℕ → List ℕ → Entities
entity_in starts numbers u e = slice_index numbers (slice_index starts u + e)

-- entities that are one have one leader and one number, in the order of leaders
pub record AreEntityNumbers (units : List Unit) (n : EntityNumbers) : Type 0 where
  pub starts_are : AreSums (counts_of units) n.starts.items
  pub alike : AreAlike (map label_of (all_entities units)) n.leaders.items
  pub lead : AreLeaders n.leaders.items
  pub numbered : AreNumbers n.leaders.items n.numbers.items n.count

-- entities have one number exactly where they are one in the program
pub record OneNumber (units : List Unit) (entities : Entities) : Type 0 where
  pub one : (a b : Item) (x y : Entity)
      → entity_at units a ≡ Some x
      → entity_at units b ≡ Some y
      → (entity_of entities a ≡ entity_of entities b) ↔ OneEntity units a b

-- each number is an entity's
pub record OnlyNumbers (units : List Unit) (entities : Entities) (count : ℕ) : Type 0 where
  pub only : (e : ℕ)
      → e < count
      → (a : Item) × (x : Entity) × (entity_at units a ≡ Some x) × (entity_of entities a ≡ e)
