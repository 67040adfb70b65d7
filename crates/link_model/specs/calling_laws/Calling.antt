-- Where the calls of trees stand, by what else is valid of them.
use Rattle.std.specs.Prelude.{ℕ, ◌≡◌, ◌≢◌, ◌<◌, Some, None, length, ◌⊎◌}
use Rattle.core_tree.specs.declared.node.Entity.{Entity}
use Rattle.core_tree.specs.declared.node.Storage.TheVariants.{FunctionBody, Parameter, Declared}
use Rattle.core_tree.specs.declared.node.NodeKind.TheVariants.{CallNode}
use Rattle.core_tree.specs.Typed.{CoreTrees}
use Rattle.core_tree.specs.Rows.{Initialises}
use Rattle.core_tree.specs.Range.{EachNode, EachEntity, SomeEntity, InRange, IsChild, entity_at}
use Rattle.core_tree.specs.Valid.{InRows, Owned, Bodied, InOwner, Literals, AllListed, FixedStatics, InSomeBody}

-- fields of a valid unit, by their names there; and each node is a body or stands under one, each initialiser is
-- the body of an object that is defined, and parameters have none
pub record AreOwned (u : CoreTrees) : Type 0 where
  pub in_range : InRange u
  pub rows : InRows u
  pub owned : Owned u
  pub bodied : Bodied u
  pub in_owner : InOwner u
  pub literals : Literals u
  pub listed : AllListed u
  pub fixed : FixedStatics u
  pub no_other_node : (i : ℕ)
      → i < length u.nodes
      → SomeEntity u (λ e entity. entity.body ≡ Some i) ⊎ ((p : ℕ) × IsChild u p i)
  pub initialised : (i e : ℕ)
      → Initialises u i e
      → (entity : Entity) × (entity_at u e ≡ Some entity) × (entity.body ≡ Some i)
      × (entity.storage ≢ FunctionBody) × (entity.storage ≢ Declared)
  pub parameters : EachEntity u (λ e entity. entity.storage ≡ Parameter → entity.body ≡ None)

-- so calls stand in the bodies of functions
abbrev pub CallsStand : Type 0
CallsStand = (u : CoreTrees) → AreOwned u → EachNode u (λ n node. node.kind ≡ CallNode → InSomeBody u n)
