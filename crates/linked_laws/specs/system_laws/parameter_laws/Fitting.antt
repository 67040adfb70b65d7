-- The rows of parameters.
use Rattle.std.specs.Prelude.{ℕ, ◌≡◌, ◌<◌, ◌≤◌, All, List, map}
use Rattle.core_tree.specs.declared.node.Program.{Program}
use Rattle.core_tree.specs.Typed.{trees_in}
use Rattle.obj_space.specs.declared.location.Location.{Location}
use Rattle.obj_space.specs.Space.{locations_in}
use Rattle.obj_space.specs.Spots.{HasWholes}
use Rattle.obj_space.specs.View.{view_of}
use Rattle.row_numbers.specs.Functions.{parameters_of}
use Rattle.row_numbers.specs.Setting.{none_row}
use Rattle.normal_form.specs.Facts.{parameter_rows}
use Rattle.normal_form.specs.SystemOf.{SystemOf}
use Rattle.constraints.specs.System.{IsSized, AreLocated}
use Rattle.sol_model.specs.declared.system.System.{System}
use Rattle.sol_model.specs.Systems.{IsConstraintValid, IsValid}
use Rattle.linked_laws.specs.call_laws.Values.{AreCallsOfValues}
use Rattle.linked_laws.specs.system_laws.Parts.{HasBody}

-- what the types of a program decide but for its parameters: the members of types, and what constraints name
pub record AreTypedDemands (system : System) : Type 0 where
  pub types : All (λ fact. All (λ position. position < fact.nodes) fact.members) system.types
  pub constraints : All (IsConstraintValid system) system.constraints

-- each row of a function's parameters is at most the last one
abbrev pub ParametersFit : Type 0
ParametersFit =
    (p : Program) (space : List Location) → space ≡ locations_in p → HasWholes p.types space → (f : ℕ)
    → All (λ rows. All (λ row. row ≤ none_row (trees_in p) (view_of space)) rows)
    (map (parameter_rows (trees_in p) (view_of space)) (parameters_of (trees_in p) (view_of space) f))

-- these decide whether the system is valid, and nothing else does
abbrev pub TypedDecide : Type 0
TypedDecide =
    (p : Program) (space : List Location) (system : System)
    → space ≡ locations_in p
    → SystemOf p (view_of space) system
    → HasBody p
    → AreCallsOfValues p
    → HasWholes p.types space
    → IsSized system
    → AreLocated system
    → AreTypedDemands system
    → IsValid system
