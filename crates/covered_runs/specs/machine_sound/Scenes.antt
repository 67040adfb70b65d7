-- That each run of a program is covered.
use Rattle.std.specs.Prelude.{ℕ, List, length}
use Rattle.c_types.specs.Made.{IsMade, AreNamed}
use Rattle.core_tree.specs.declared.node.Program.{Program}
use Rattle.core_tree.specs.Range.{EachNode}
use Rattle.core_tree.specs.Typed.{trees_in}
use Rattle.core_tree.specs.Valid.{ValidProgram}
use Rattle.sol_model.specs.declared.system.System.{System}
use Rattle.sol_model.specs.Families.{Family}
use Rattle.sol_model.specs.Solutions.{IsClosed}
use Rattle.obj_space.specs.Space.{locations_in}
use Rattle.obj_space.specs.View.{view_of}
use Rattle.normal_form.specs.SystemOf.{SystemOf}
use Rattle.ref_state.specs.ref_types.Types.{id}
use Rattle.ref_machine.specs.Run.{run}
use Rattle.covering_laws.specs.covered_state.State.{Covered}
use Rattle.covered_runs.specs.covered_steps.covered_values.Met.{HasFit}
use Rattle.covered_runs.specs.covered_steps.Placed.{NamesDefined}
use Rattle.covered_runs.specs.covered_steps.covered_statements.Founded.{AutomaticObjects}
use Rattle.covered_runs.specs.covered_steps.covered_statements.Runnable.{IsRunnable}
use Rattle.covered_runs.specs.covered_steps.covered_effects.Served.{IsServed}
use Rattle.covered_runs.specs.machine_sound.covered_start.Objects.{IsSolved}
use Rattle.covered_runs.specs.machine_sound.covered_start.Start.{machine_world, StartsRight}

-- A program with its system and a family that is closed for it. What each part says is for another crate to meet.
pub record IsScene (p : Program) (system : System) (family : Family) : Type 0 where
  -- linking: the program is valid, its types made and named, and each structure of few nodes
  pub valid : ValidProgram p
  pub made : IsMade p.types
  pub named : AreNamed p.types
  pub fit : HasFit p.types
  -- the constraints, and solving them
  pub is_system : SystemOf p (view_of (locations_in p)) system
  pub closed : IsClosed system family
  -- linking: each function that a node names has a body or is the library's, and main is of one of its types
  pub defined : EachNode (trees_in p) (λ n node. NamesDefined p node.kind)
  pub main : StartsRight p
  -- reading: no object of a block is a function
  pub automatic : AutomaticObjects (trees_in p)
  -- the library's functions have their shapes, objects and places
  pub served : (s : IsSolved p system family) (runs : IsRunnable (machine_world p system family s))
      → IsServed (machine_world p system family s) runs.stands (id (length p.types.terms))

-- the sets cover each state of each run, whatever the words and however many steps
abbrev pub EveryRunIsCovered : Type 0
EveryRunIsCovered =
    (p : Program) (system : System) (family : Family)
    → IsScene p system family
    → (s : IsSolved p system family)
    × ((words : List ℕ) (n : ℕ) → Covered (machine_world p system family s) (run p words n))
