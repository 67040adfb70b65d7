-- The parts of a program's system that are valid.
use Rattle.std.specs.Prelude.{ℕ, ◌≡◌, ◌<◌, All, List, Some, slice_get}
use Rattle.core_tree.specs.declared.node.Program.{Program}
use Rattle.core_tree.specs.declared.node.Entity.{Entity}
use Rattle.core_tree.specs.declared.node.Storage.TheVariants.{FunctionBody}
use Rattle.sol_model.specs.declared.system.System.{System}
use Rattle.sol_model.specs.declared.system.LocationFact.{LocationFact}
use Rattle.sol_model.specs.Systems.{IsRow, IsConstraintValid, IsLocationValid, IsValid}
use Rattle.obj_space.specs.declared.location.Location.{Location}
use Rattle.obj_space.specs.Space.{locations_in}
use Rattle.obj_space.specs.View.{SpaceView, view_of}
use Rattle.normal_form.specs.SystemOf.{SystemOf}
use Rattle.constraints.specs.System.{IsSized, AreLocated}
use Rattle.linked_laws.specs.call_laws.Values.{AreCallsOfValues}

-- a program with a function that has a body
pub record HasBody (p : Program) : Type 0 where
  pub number : ℕ
  pub entity : Entity
  pub entity_is : slice_get p.entities.items number ≡ Some entity
  pub storage : entity.storage ≡ FunctionBody

-- what the types of a program decide: the members of types, the rows of parameters, and what constraints name
pub record AreDemandsValid (system : System) : Type 0 where
  pub types : All (λ fact. All (λ position. position < fact.nodes) fact.members) system.types
  pub parameters : All (λ function. All (λ rows. All (IsRow system) rows) function.parameters) system.functions
  pub constraints : All (IsConstraintValid system) system.constraints

abbrev pub LocationsValid : Type 0
LocationsValid = (p : Program) (s : SpaceView) (system : System) → SystemOf p s system → AreLocated system
    → (l : ℕ) (fact : LocationFact) → slice_get system.locations l ≡ Some fact → IsLocationValid system l fact

-- these decide whether the system is valid, and nothing else does
abbrev pub DemandsDecide : Type 0
DemandsDecide =
    (p : Program) (space : List Location) (system : System)
    → space ≡ locations_in p
    → SystemOf p (view_of space) system
    → HasBody p
    → AreCallsOfValues p
    → IsSized system → AreLocated system → AreDemandsValid system → IsValid system
