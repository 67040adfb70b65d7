-- Bodies of the entities of a unit that is built.
use Rattle.std.specs.Prelude.{ℕ, ◌≡◌, List, Some}
use Rattle.core_tree.specs.declared.node.Unit.{Unit}
use Rattle.core_tree.specs.declared.node.Storage.TheVariants.{FunctionBody}
use Rattle.core_tree.specs.Typed.{trees_of}
use Rattle.core_tree.specs.Rows.{Initialises}
use Rattle.core_tree.specs.Range.{EachEntity}
use Rattle.core_tree.specs.Valid.{OnlyBody}
use Rattle.c_senses.specs.Tree.{Source}
use Rattle.declaration_laws.specs.definition_laws.passed.built_unit_laws.built_units.Built.{IsBuilt}

-- an object's body is its own Initialise
abbrev pub BodiesInitialise : Unit → Type 0
BodiesInitialise u =
    EachEntity (trees_of u)
    (λ e entity. (entity.storage ≡ FunctionBody → ⊥) → (b : ℕ) → entity.body ≡ Some b
    → Initialises (trees_of u) b e)

-- no other entity has an entity's body
abbrev pub BodiesApart : Unit → Type 0
BodiesApart u = EachEntity (trees_of u) (λ e entity. (b : ℕ) → entity.body ≡ Some b → OnlyBody (trees_of u) e b)

abbrev pub OneBodyEach : Type 0
OneBodyEach = (s : Source) (name : List ℕ) (u : Unit) → IsBuilt s name u → BodiesInitialise u → BodiesApart u
