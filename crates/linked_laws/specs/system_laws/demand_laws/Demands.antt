-- The constraints of a system.
use Rattle.std.specs.Prelude.{ℕ, ◌≡◌, ◌<◌, All, List, Option, Some, length, slice_get}
use Rattle.c_types.specs.Made.{IsMade, AreNamed}
use Rattle.c_types.specs.declared.term.PathStep.{PathStep}
use Rattle.core_tree.specs.declared.node.Program.{Program}
use Rattle.core_tree.specs.declared.node.Node.{Node}
use Rattle.core_tree.specs.declared.node.NodeKind.TheVariants.{Initialise}
use Rattle.core_tree.specs.Typed.{trees_in}
use Rattle.core_tree.specs.Valid.{IsEntryAt}
use Rattle.sol_model.specs.declared.system.System.{System}
use Rattle.sol_model.specs.Systems.{IsConstraintValid}
use Rattle.obj_space.specs.declared.location.Location.{Location}
use Rattle.obj_space.specs.Space.{locations_in}
use Rattle.obj_space.specs.Spots.{HasWholes}
use Rattle.obj_space.specs.View.{SpaceView, view_of}
use Rattle.normal_form.specs.Assignments.{initialise_row}
use Rattle.normal_form.specs.SystemOf.{constraint_of, setting_of, SystemOf}
use Rattle.linked_laws.specs.system_laws.parameter_laws.Fitting.{AreTypedDemands}
use Rattle.linked_laws.specs.merged_laws.Merged.{TagsFit}
use Rattle.linked_laws.specs.node_laws.Rows.{HasRows}
use Rattle.linked_laws.specs.return_laws.Returns.{HasReturns}
use Rattle.linked_laws.specs.call_laws.Values.{AreCallsOfValues}

-- what initialisers put where is in range
pub record InitialsFit (p : Program) (s : SpaceView) (system : System) : Type 0 where
  pub each : (n : ℕ) (node : Node) (e : ℕ) (paths : List (List PathStep)) (owners : List (Option ℕ))
      → slice_get p.nodes.items n ≡ Some node
      → node.kind ≡ Initialise e paths
      → All (λ a. IsConstraintValid system (constraint_of a))
      (initialise_row (setting_of p s owners) e paths node.children)

abbrev pub DemandsFit : Type 0
DemandsFit =
    (p : Program) (space : List Location) (system : System)
    → space ≡ locations_in p
    → SystemOf p (view_of space) system
    → IsMade p.types
    → AreNamed p.types
    → HasWholes p.types space
    → 0 < length space
    → TagsFit p.types
    → HasRows p
    → HasReturns p
    → AreCallsOfValues p
    → InitialsFit p (view_of space) system
    → All (λ e. IsEntryAt (trees_in p) e) p.entries.items
    → AreTypedDemands system
