-- Objects that are initialised (C11 6.7.9, 6.9.2).
use Rattle.std.specs.Prelude.{ℕ, ◌≡◌, ◌≢◌, List, Some, slice_get}
use Rattle.core_tree.specs.declared.node.Unit.{Unit}
use Rattle.core_tree.specs.declared.node.Entity.{Entity}
use Rattle.core_tree.specs.declared.node.Storage.TheVariants.{FunctionBody, Declared}
use Rattle.core_tree.specs.Typed.{trees_of}
use Rattle.core_tree.specs.Rows.{Initialises}

-- each initialiser of a unit is the body of an object that the unit defines
pub record IsFilled (x : Unit) : Type 0 where
  pub each : (i e : ℕ) → Initialises (trees_of x) i e
      → (entity : Entity) × (slice_get x.entities.items e ≡ Some entity) × (entity.body ≡ Some i)
      × (entity.storage ≢ FunctionBody) × (entity.storage ≢ Declared)

-- so is each of some units
pub record AreFilled (units : List Unit) : Type 0 where
  pub each : (u : ℕ) (x : Unit) → slice_get units u ≡ Some x → IsFilled x
