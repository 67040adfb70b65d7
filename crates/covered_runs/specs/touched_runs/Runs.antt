-- That what a program's functions may touch covers each of its runs.
use Rattle.std.specs.Prelude.{◌≡◌, ℕ, List, Some, IsSome, slice_get, Contains}
use Rattle.c_types.specs.declared.key.ObjectKey.{ObjectKey}
use Rattle.c_types.specs.declared.term.PathStep.{PathStep}
use Rattle.core_tree.specs.declared.node.Program.{Program}
use Rattle.core_tree.specs.declared.node.Unit.{Unit}
use Rattle.core_tree.specs.Typed.{trees_in}
use Rattle.sol_model.specs.declared.rows.Rows.{Rows}
use Rattle.sol_model.specs.declared.system.System.{System}
use Rattle.sol_model.specs.Families.{Family, Has, members}
use Rattle.obj_space.specs.Space.{locations_in}
use Rattle.obj_space.specs.View.{view_of}
use Rattle.row_numbers.specs.Functions.{functions_of}
use Rattle.mod_ref.specs.declared.access.Access.{Access}
use Rattle.mod_ref.specs.declared.access.Access.TheVariants.{Read, Write}
use Rattle.mod_ref.specs.declared.effect_rows.Effects.{Effects}
use Rattle.mod_ref.specs.Touch.{AreEffects}
use Rattle.ref_state.specs.declared.frames.Frame.{Frame}
use Rattle.ref_state.specs.ref_types.Types.{types_with}
use Rattle.ref_machine.specs.Types.{running}
use Rattle.ref_machine.specs.Run.{run}
use Rattle.covering_laws.specs.covered_memory.Spots.{spot}
use Rattle.covered_runs.specs.covered_programs.Programs.{IsAnalysed}
use Rattle.covered_runs.specs.touched_runs.Accesses.{IsCell, StepAccesses}

-- what the functions read, or what they write
abbrev pub rows_for : Access → Effects → Rows
rows_for Read made = made.reads
rows_for Write made = made.writes

-- the row of a function of the program has the location
pub record IsInRow (p : Program) (rows : Rows) (key : ObjectKey) (location : ℕ) : Type 0 where
  pub number : ℕ
  pub function : slice_get (functions_of (trees_in p) (view_of (locations_in p))) number ≡ Some key
  pub has : Has (members rows) number location

-- A program that is linked from units, the least sets of its system, and what its functions read and write: for every
-- run, however many steps, the location of each cell that the next step reads stands in the reads of the function of
-- each frame that is on the stack before it, and the location of each that it writes in their writes.
abbrev pub TouchCoversRuns : Type 0
TouchCoversRuns =
    (units : List Unit) (p : Program) (system : System) (family : Family) (made : Effects) (words : List ℕ) (n : ℕ)
    (access : Access) (key : ObjectKey) (path : List PathStep) (location : ℕ) (f : Frame)
    → IsAnalysed units p system family
    → AreEffects p (view_of (locations_in p)) system family made
    → StepAccesses (running p) (run p words n) access key path
    → spot (types_with p.types) (locations_in p) key path ≡ Some location
    → Contains (run p words n).frames f
    → IsInRow p (rows_for access made) f.function location

-- Each cell of the memory of a state of a run has a location, so no cell is outside of what the sets speak of: neither
-- one that an object has before a step, nor one that it gets in the step, and has in the state after it.
abbrev pub CellsHaveSpots : Type 0
CellsHaveSpots =
    (units : List Unit) (p : Program) (system : System) (family : Family) (words : List ℕ) (n i : ℕ)
    (key : ObjectKey) (path : List PathStep)
    → IsAnalysed units p system family
    → IsCell (types_with p.types) (run p words n).memory i key path
    → IsSome (spot (types_with p.types) (locations_in p) key path)
