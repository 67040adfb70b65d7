-- That the least sets of the program that texts are read as cover each of its runs, and what its functions may read and
-- write by them, too.
use Rattle.std.specs.Prelude.{◌≡◌, ℕ, suc, List, ◌∷◌, Some, IsSome, map, Contains}
use Rattle.c_types.specs.declared.key.ObjectKey.{ObjectKey}
use Rattle.c_types.specs.declared.term.PathStep.{PathStep}
use Rattle.c_types.specs.declared.term.PathStep.TheVariants.{Index}
use Rattle.core_tree.specs.declared.node.Program.{Program}
use Rattle.core_tree.specs.declared.node.Unit.{Unit}
use Rattle.sol_model.specs.declared.system.System.{System}
use Rattle.sol_model.specs.Families.{Family}
use Rattle.sol_model.specs.Solutions.{IsLeast}
use Rattle.obj_space.specs.declared.location.Location.{Location}
use Rattle.obj_space.specs.Space.{locations_in}
use Rattle.obj_space.specs.View.{view_of}
use Rattle.command_line.specs.Distinct.{AreDistinct}
use Rattle.unit_report.specs.unit_system.Of.{IsProgramOf, IsSystemOf}
use Rattle.text_units.specs.Answers.{NamedText}
use Rattle.text_units.specs.Lowered.{AreRightTexts}
use Rattle.mod_ref.specs.declared.access.Access.{Access}
use Rattle.mod_ref.specs.declared.effect_rows.Effects.{Effects}
use Rattle.mod_ref.specs.Touch.{AreEffects}
use Rattle.ref_state.specs.declared.frames.Frame.{Frame}
use Rattle.ref_state.specs.ref_types.Types.{types_with}
use Rattle.ref_machine.specs.Types.{running}
use Rattle.ref_machine.specs.Run.{run}
use Rattle.covering_laws.specs.covered_memory.Spots.{spot}
use Rattle.covering_laws.specs.covered_state.State.{Covered}
use Rattle.covered_runs.specs.machine_sound.covered_start.Objects.{IsSolved}
use Rattle.covered_runs.specs.machine_sound.covered_start.Start.{machine_world}
use Rattle.covered_runs.specs.touched_runs.Accesses.{IsCell, StepAccesses}
use Rattle.covered_runs.specs.touched_runs.Runs.{rows_for, IsInRow}
use Rattle.changed_cells.specs.Cells.{IsChanged, IsBareChanged}

-- sets solve a program's system, and cover each state of each run of the program, whatever the words and however many
-- steps
pub record CoversRuns (p : Program) (system : System) (family : Family) : Type 0 where
  pub solved : IsSolved p system family
  pub covered : (words : List ℕ) (n : ℕ) → Covered (machine_world p system family solved) (run p words n)

-- a system has a least solution
abbrev pub HasLeast : System → Type 0
HasLeast system = (family : Family) × IsLeast system family

-- the sets that are the least solution of a program's system, as those of its report are, cover each run
abbrev pub AreRunsCovered : Program → System → Type 0
AreRunsCovered p system = (family : Family) → IsLeast system family → CoversRuns p system family

-- so it is for each program that texts of distinct names are read as, and that is entered at those names
abbrev pub ReportsCovered : Type 0
ReportsCovered =
    (names : List (List ℕ)) (texts : List NamedText) (units : List Unit) (p : Program) (space : List Location)
    (system : System)
    → AreDistinct (map (λ (text : NamedText). text.0) texts)
    → AreRightTexts 0 texts units
    → IsProgramOf names units p
    → IsSystemOf p space system
    → AreRunsCovered p system

-- ---- what functions may read and write

-- Rows of what a program's functions may read and write cover each run of the program, whatever the words and however
-- many steps, for each function that is on the stack before a step: each cell has a location; that of each cell that
-- the step reads is in the function's reads, that of each that it writes in its writes; and so is that of each cell
-- that holds something else after the step. Of an object that has no type after the step, and then other cells listed
-- than before, the location of whatever may be in an element is.
pub record EffectsCoverRuns (p : Program) (made : Effects) : Type 0 where
  pub located : (words : List ℕ) (n i : ℕ) (key : ObjectKey) (path : List PathStep)
      → IsCell (types_with p.types) (run p words n).memory i key path
      → IsSome (spot (types_with p.types) (locations_in p) key path)
  pub touched : (words : List ℕ) (n : ℕ) (access : Access) (key : ObjectKey) (path : List PathStep) (location : ℕ)
      (f : Frame)
      → StepAccesses (running p) (run p words n) access key path
      → spot (types_with p.types) (locations_in p) key path ≡ Some location
      → Contains (run p words n).frames f
      → IsInRow p (rows_for access made) f.function location
  pub changed : (words : List ℕ) (n i : ℕ) (key : ObjectKey) (path : List PathStep) (f : Frame)
      → IsChanged (types_with p.types) (run p words n).memory (run p words (suc n)).memory i key path
      → Contains (run p words n).frames f
      → (location : ℕ) × (spot (types_with p.types) (locations_in p) key path ≡ Some location)
      × IsInRow p made.writes f.function location
  pub bare : (words : List ℕ) (n i k : ℕ) (key : ObjectKey) (path : List PathStep) (location : ℕ) (f : Frame)
      → IsBareChanged (run p words n).memory (run p words (suc n)).memory i key
      → spot (types_with p.types) (locations_in p) key (Index k ∷ path) ≡ Some location
      → Contains (run p words n).frames f
      → IsInRow p made.writes f.function location

-- the rows by the least sets of a program's system, which are those that the text of its effects lists, cover each run
abbrev pub AreEffectsCovered : Program → System → Type 0
AreEffectsCovered p system =
    (family : Family) (made : Effects)
    → IsLeast system family
    → AreEffects p (view_of (locations_in p)) system family made
    → EffectsCoverRuns p made

-- so it is for each program that texts of distinct names are read as, and that is entered at those names
abbrev pub EffectsCovered : Type 0
EffectsCovered =
    (names : List (List ℕ)) (texts : List NamedText) (units : List Unit) (p : Program) (space : List Location)
    (system : System)
    → AreDistinct (map (λ (text : NamedText). text.0) texts)
    → AreRightTexts 0 texts units
    → IsProgramOf names units p
    → IsSystemOf p space system
    → AreEffectsCovered p system
