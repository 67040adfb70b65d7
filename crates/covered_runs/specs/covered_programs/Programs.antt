-- That each run of a program that is linked from units is covered.
use Rattle.std.specs.Prelude.{ℕ, List}
use Rattle.c_types.specs.Made.{IsMade, AreNamed}
use Rattle.core_tree.specs.declared.node.Program.{Program}
use Rattle.core_tree.specs.declared.node.Unit.{Unit}
use Rattle.core_tree.specs.Valid.{ValidProgram}
use Rattle.sol_model.specs.declared.system.System.{System}
use Rattle.sol_model.specs.Families.{Family}
use Rattle.sol_model.specs.Solutions.{IsLeast}
use Rattle.sol_model.specs.Systems.{IsValid}
use Rattle.link_model.specs.filled_units.Filled.{AreFilled}
use Rattle.unit_link.specs.Linked.{LinkedAt}
use Rattle.unit_link.specs.Needs.{AreLinkable}
use Rattle.linked_laws.specs.merged_laws.Merged.{AreTables}
use Rattle.obj_space.specs.Space.{locations_in}
use Rattle.obj_space.specs.View.{view_of}
use Rattle.normal_form.specs.SystemOf.{SystemOf}
use Rattle.ref_machine.specs.Run.{run}
use Rattle.covering_laws.specs.covered_state.State.{Covered}
use Rattle.covered_runs.specs.machine_sound.covered_start.Objects.{IsSolved}
use Rattle.covered_runs.specs.machine_sound.covered_start.Start.{machine_world}
use Rattle.covered_runs.specs.covered_programs.served_worlds.Stored.{StoreFunctions}

-- units that are read, the program that is linked from them, its system, and the least sets of that
pub record IsAnalysed (units : List Unit) (p : Program) (system : System) (family : Family) : Type 0 where
  -- reading: valid units over tables that were made, which initialise only objects that they define, and whose
  -- functions have bodies or are only declared
  pub linkable : AreLinkable units
  pub tables : AreTables units
  pub filled : AreFilled units
  pub stored : StoreFunctions units
  -- linking: a valid program over types that were made and are named, which is entered at those names
  pub entered : List (List ℕ)
  pub linked : LinkedAt entered units p
  pub valid : ValidProgram p
  pub made : IsMade p.types
  pub named : AreNamed p.types
  -- the constraints, and solving them
  pub is_system : SystemOf p (view_of (locations_in p)) system
  pub system_valid : IsValid system
  pub least : IsLeast system family

-- the least sets cover each state of each run, whatever the words and however many steps
abbrev pub ProgramsCovered : Type 0
ProgramsCovered =
    (units : List Unit) (p : Program) (system : System) (family : Family)
    → IsAnalysed units p system family
    → (s : IsSolved p system family)
    × ((words : List ℕ) (n : ℕ) → Covered (machine_world p system family s) (run p words n))
