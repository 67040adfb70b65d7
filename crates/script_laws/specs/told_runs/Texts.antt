-- That the text of a run names what the run stores and calls, within the sets of the program.
use Rattle.std.specs.Prelude.{◌≡◌, ◌++◌, ℕ, List, Some, Contains, length, slice_get, codes}
use Rattle.c_types.specs.declared.key.ObjectKey.{ObjectKey}
use Rattle.core_tree.specs.declared.node.Program.{Program}
use Rattle.sol_model.specs.declared.system.System.{System}
use Rattle.sol_model.specs.declared.system.CallSite.{CallSite}
use Rattle.sol_model.specs.Families.{Family}
use Rattle.sol_model.specs.Solutions.{IsLeast}
use Rattle.obj_space.specs.declared.location.Location.{Location}
use Rattle.call_sites.specs.Calls.{calls_upto}
use Rattle.unit_report.specs.unit_system.Of.{IsSystemOf}
use Rattle.unit_report.specs.report_text.Report.{members_in, name_in, targets_in}
use Rattle.ref_cells.specs.declared.cells.Cell.{Cell}
use Rattle.ref_cells.specs.declared.instance.Instance.{Instance}
use Rattle.ref_machine.specs.Run.{run}
use Rattle.run_text.specs.Lines.{store_line, target_line}
use Rattle.run_text.specs.Names.{node_place}
use Rattle.report_cli.specs.covered_reports.Reports.{CoversRuns}
use Rattle.script_laws.specs.told_runs.Lines.{Points}

-- the line that a run's text has of a store names two locations, and the second is a member of the first one's set
pub record IsStoreLine (p : Program) (space : List Location) (system : System) (family : Family)
    (memory : List Instance) (store : Cell × Cell) : Type 0 where
  pub row : ℕ
  pub row_is : (x : Location) × (slice_get space row ≡ Some x)
  pub target : ℕ
  pub target_is : (x : Location) × (slice_get space target ≡ Some x)
  pub line : store_line p memory store
      ≡ codes "store " ++ name_in space row ++ codes " " ++ name_in space target ++ codes "\n"
  pub named : Contains (members_in system family row) target

-- so it is of each pointer that isn't null, and each function, that a step of a run puts into a cell
abbrev pub StoresWithinSets : Type 0
StoresWithinSets =
    (p : Program) (space : List Location) (system : System) (family : Family) (words : List ℕ) (n : ℕ)
    (store : Cell × Cell)
    → IsSystemOf p space system
    → IsLeast system family
    → CoversRuns p system family
    → Contains (run p words n).notes.stores store
    → Points store.1
    → IsStoreLine p space system family (run p words n).memory store

-- the line that a run's text has of a call through a pointer names a location that is one of the call's targets
pub record IsTargetLine (p : Program) (space : List Location) (system : System) (family : Family) (n : ℕ)
    (key : ObjectKey) : Type 0 where
  pub call : ℕ
  pub call_is : slice_get (calls_upto p.nodes.items (length p.nodes.items)) call ≡ Some n
  pub site : CallSite
  pub site_is : slice_get system.calls call ≡ Some site
  pub target : ℕ
  pub line : target_line p (Some (n, key))
      ≡ codes "target " ++ node_place p n ++ codes " " ++ name_in space target ++ codes "\n"
  pub named : Contains (targets_in system family site) target

-- so it is of each call that a step of a run makes through a pointer
abbrev pub TargetsWithinSets : Type 0
TargetsWithinSets =
    (p : Program) (space : List Location) (system : System) (family : Family) (words : List ℕ) (n node : ℕ)
    (key : ObjectKey)
    → IsSystemOf p space system
    → IsLeast system family
    → CoversRuns p system family
    → (run p words n).notes.target ≡ Some (node, key)
    → IsTargetLine p space system family node key
