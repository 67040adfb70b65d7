-- Units whose entities are those that senses declare, each with a number of its own.
use Rattle.std.specs.Prelude.{ℕ, ◌≡◌, ◌<◌, List, Some, length}
use Rattle.core_tree.specs.declared.node.Entity.{Entity}
use Rattle.core_tree.specs.declared.node.Unit.{Unit}
use Rattle.core_tree.specs.Typed.{trees_of}
use Rattle.core_tree.specs.Range.{entity_at}
use Rattle.c_senses.specs.Tree.{Source}
use Rattle.c_senses.specs.Sense.{Sense}
use Rattle.c_senses.specs.Rows.{AreSenses}
use Rattle.c_senses.specs.Right.{Numbering, Declared, IsDeclaredAt, IsEntityOf}

-- what built units and right ones have in common
pub record AreNumbered (s : Source) (senses : List Sense) (n : Numbering) (u : Unit) : Type 0 where
  pub are_senses : AreSenses s senses
  pub whole : length senses ≡ length s.nodes
  pub once : (c d e : ℕ) → n c ≡ Some e → n d ≡ Some e → c ≡ d
  pub each : (d : ℕ) (what : Declared)
      → IsDeclaredAt s senses d what
      → (e : ℕ) × (entity : Entity) × (n d ≡ Some e) × (entity_at (trees_of u) e ≡ Some entity)
      × IsEntityOf n u s.unit what entity
  pub other : (e : ℕ)
      → e < length u.entities.items
      → (d : ℕ) × (what : Declared) × IsDeclaredAt s senses d what × (n d ≡ Some e)
  pub owners : (e k : ℕ) (entity : Entity)
      → entity_at (trees_of u) e ≡ Some entity
      → entity.owner ≡ Some k
      → k < length u.entities.items
