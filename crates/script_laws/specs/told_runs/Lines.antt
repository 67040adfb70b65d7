-- That what a run of a program holds and calls stands on the lines of the report of the program's least sets.
use Rattle.std.specs.Prelude.{◌≡◌, ℕ, ⊤, false, List, [], Option, Some, None, Contains, map, length, slice_get}
use Rattle.std.specs.Prelude.{String, option_and_then}
use Rattle.std.specs.declared.alloc.Global.{Global}
use Rattle.c_types.specs.declared.key.ObjectKey.{ObjectKey}
use Rattle.c_types.specs.declared.key.ObjectKey.TheVariants.{Function as FunctionKey}
use Rattle.c_types.specs.declared.term.PathStep.{PathStep}
use Rattle.c_types.specs.Table.{Table}
use Rattle.core_tree.specs.declared.node.Program.{Program}
use Rattle.core_tree.specs.Typed.{trees_in}
use Rattle.sol_model.specs.declared.system.System.{System}
use Rattle.sol_model.specs.declared.system.CallSite.{CallSite}
use Rattle.sol_model.specs.declared.system.Function.{Function}
use Rattle.sol_model.specs.Families.{Family}
use Rattle.sol_model.specs.Solutions.{IsLeast}
use Rattle.call_graph.specs.Graph.{IsGraph}
use Rattle.obj_space.specs.declared.location.Location.{Location}
use Rattle.obj_space.specs.View.{view_of}
use Rattle.row_numbers.specs.Functions.{functions_of}
use Rattle.call_sites.specs.Calls.{calls_upto}
use Rattle.unit_report.specs.unit_system.Of.{IsSystemOf}
use Rattle.unit_report.specs.report_text.Report.{call_line, call_lines, edge_line, members_in, set_line, set_lines, targets_in}
use Rattle.ref_cells.specs.declared.cells.Cell.{Cell}
use Rattle.ref_cells.specs.declared.cells.Cell.TheVariants.{Pointer, Function as FunctionCell}
use Rattle.ref_cells.specs.declared.instance.Instance.{Instance}
use Rattle.ref_state.specs.declared.frames.Frame.{Frame}
use Rattle.ref_state.specs.ref_types.Types.{types_with}
use Rattle.ref_machine.specs.Run.{run}
use Rattle.covering_laws.specs.covered_memory.Spots.{spot}
use Rattle.report_cli.specs.covered_reports.Reports.{CoversRuns}

-- ---- what memory holds
-- the location of what a cell points to; none where it points to nothing
abbrev pub target_of : Table → List Location → List Instance → Cell → Option ℕ
target_of table space memory (Pointer i path past) =
    option_and_then (λ (x : Instance). spot table space x.key path) (slice_get memory i)
target_of table space memory (FunctionCell key) = spot table space key []
target_of table space memory cell = None

-- a cell holds a pointer that isn't null, or a function
abbrev pub Points : Cell → Type 0
Points (Pointer i path past) = ⊤
Points (FunctionCell key) = ⊤
Points cell = ⊥

-- the report has a line for the set of a location, and names another location on it
pub record IsOnLine (space : List Location) (system : System) (family : Family) (row target : ℕ) : Type 0 where
  pub line : Contains (set_lines space system family) (set_line space system family row)
  pub named : Contains (members_in system family row) target

-- a cell has a location, and so has what it points to, which is named on the line of the cell's set
pub record IsHeldOnLine (table : Table) (space : List Location) (system : System) (family : Family)
    (memory : List Instance) (key : ObjectKey) (path : List PathStep) (cell : Cell) : Type 0 where
  pub row : ℕ
  pub row_is : spot table space key path ≡ Some row
  pub target : ℕ
  pub target_is : target_of table space memory cell ≡ Some target
  pub on : IsOnLine space system family row target

-- what a step put into a cell has a location, and is one of the members of the set of the cell's location
pub record IsStored (table : Table) (space : List Location) (system : System) (family : Family)
    (memory : List Instance) (store : Cell × Cell) : Type 0 where
  pub row : ℕ
  pub row_is : target_of table space memory store.0 ≡ Some row
  pub target : ℕ
  pub target_is : target_of table space memory store.1 ≡ Some target
  pub named : Contains (members_in system family row) target

-- ---- what is called
-- a call stands at a node, and a function is one of its targets; where the call doesn't name its function, the report
-- has a line for it
pub record IsCalledOnLine (p : Program) (space : List Location) (names : List (String Global)) (system : System)
    (family : Family) (n : ℕ) (key : ObjectKey) : Type 0 where
  pub call : ℕ
  pub call_is : slice_get (calls_upto p.nodes.items (length p.nodes.items)) call ≡ Some n
  pub site : CallSite
  pub site_is : slice_get system.calls call ≡ Some site
  pub number : ℕ
  pub key_is : slice_get (functions_of (trees_in p) (view_of space)) number ≡ Some key
  pub function : Function
  pub function_is : slice_get system.functions number ≡ Some function
  pub named : Contains (targets_in system family site) function.location
  pub line : site.direct ≡ false
      → Contains (call_lines space names system family) (call_line space names system family site)

-- the report has an edge from a function of the library to one that it called back
pub record IsBackOnLine (p : Program) (space : List Location) (system : System) (edges : List (ℕ × ℕ))
    (library : ℕ) (key : ObjectKey) : Type 0 where
  pub caller : ℕ
  pub caller_is : slice_get (functions_of (trees_in p) (view_of space)) caller ≡ Some (FunctionKey library)
  pub callee : ℕ
  pub callee_is : slice_get (functions_of (trees_in p) (view_of space)) callee ≡ Some key
  pub line : Contains (map (edge_line space system) edges) (edge_line space system (caller, callee))

-- ---- the law
-- Of each state of each run of a program whose least sets cover its runs, on the report of these sets: each pointer
-- that isn't null and each function in a cell of memory stands on the line of the cell's location; each that the step
-- put into a cell is in the set of that cell's location; each function that a call reached through a pointer, or
-- entered, stands on the call's line; and each that the library entered is behind an edge from it.
pub record RunOnLines (p : Program) (space : List Location) (names : List (String Global)) (system : System)
    (family : Family) (edges : List (ℕ × ℕ)) (words : List ℕ) (n : ℕ) : Type 0 where
  pub held : (i : ℕ) (inst : Instance) (path : List PathStep) (cell : Cell)
      → slice_get (run p words n).memory i ≡ Some inst
      → Contains inst.cells (path, cell)
      → Points cell
      → IsHeldOnLine (types_with p.types) space system family (run p words n).memory inst.key path cell
  pub stored : (store : Cell × Cell)
      → Contains (run p words n).notes.stores store
      → Points store.1
      → IsStored (types_with p.types) space system family (run p words n).memory store
  pub reached : (node : ℕ) (key : ObjectKey)
      → (run p words n).notes.target ≡ Some (node, key)
      → IsCalledOnLine p space names system family node key
  pub entered : (f : Frame) (node : ℕ)
      → Contains (run p words n).frames f
      → f.call ≡ Some node
      → IsCalledOnLine p space names system family node f.function
  pub back : (f : Frame) (library : ℕ)
      → Contains (run p words n).frames f
      → f.by ≡ Some library
      → IsBackOnLine p space system edges library f.function

abbrev pub LinesHold : Type 0
LinesHold =
    (p : Program) (space : List Location) (names : List (String Global)) (system : System) (family : Family)
    (edges : List (ℕ × ℕ)) (words : List ℕ) (n : ℕ)
    → IsSystemOf p space system
    → IsLeast system family
    → CoversRuns p system family
    → IsGraph system family edges
    → RunOnLines p space names system family edges words n
