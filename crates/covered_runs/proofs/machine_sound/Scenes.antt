-- Each run of a program is covered.
use Rattle.std.proofs.Common.{ℕ, List, length, refl}
use Rattle.c_types.specs.Made.{IsMade}
use Rattle.core_tree.specs.declared.node.NodeKind.{NodeKind}
use Rattle.core_tree.specs.declared.node.NodeKind.TheVariants.{FunctionName}
use Rattle.core_tree.specs.declared.node.Program.{Program}
use Rattle.sol_model.specs.declared.system.System.{System}
use Rattle.sol_model.specs.Families.{Family}
use Rattle.obj_space.specs.Objects.{objects_of}
use Rattle.obj_space.specs.Space.{locations_in}
use Rattle.obj_space.specs.Spots.{ReachesParts}
use Rattle.obj_space.proofs.Begins.{all_reached}
use Rattle.ref_state.specs.ref_types.Types.{id, types_with}
use Rattle.ref_machine.specs.Run.{start, run}
use Rattle.covering_laws.proofs.covered_memory.Grounds.{grounds_of}
use Rattle.covering_laws.proofs.grown_programs.Systems.{systems_grow}
use Rattle.covering_laws.specs.covered_state.World.{World}
use Rattle.covering_laws.specs.covered_state.State.{Covered}
use Rattle.covered_runs.specs.covered_steps.covered_values.Values.{IsFound}
use Rattle.covered_runs.specs.covered_steps.Placed.{HasFirst}
use Rattle.covered_runs.proofs.covered_steps.Named.{functions_found}
use Rattle.covered_runs.specs.covered_steps.covered_statements.Runnable.{IsRunnable}
use Rattle.covered_runs.proofs.covered_steps.covered_statements.Founded.{runnable_met}
use Rattle.covered_runs.specs.machine_sound.covered_start.Objects.{terms_behind, IsSolved}
use Rattle.covered_runs.specs.machine_sound.covered_start.Start.{machine_world}
use Rattle.covered_runs.proofs.machine_sound.covered_start.Types.{library_follow}
use Rattle.covered_runs.proofs.machine_sound.covered_start.Filled.{start_steady}
use Rattle.covered_runs.proofs.machine_sound.covered_start.Begun.{begin_steady}
use Rattle.covered_runs.specs.machine_sound.Carried.{Carried, IsSteppable}
use Rattle.covered_runs.specs.machine_sound.Scenes.{IsScene, EveryRunIsCovered}
use Rattle.covered_runs.proofs.machine_sound.Runs.{run_sound}

reaches_parts : (p : Program) → IsMade p.types → ReachesParts p.types (locations_in p)
unfolding locations_in
reaches_parts p made = all_reached p.types made (objects_of p)

module _ (p : Program) (system : System) (family : Family) (scene : IsScene p system family) where
  pub solved : IsSolved p system family
  solved = record {
    made = scene.made;
    named = scene.named;
    is_system = systems_grow p (terms_behind p) system scene.valid scene.made scene.named (library_follow (length p.types.terms)) scene.is_system;
    closed = scene.closed;
    grounds = grounds_of p (locations_in p) system refl scene.made scene.named (reaches_parts p scene.made) scene.is_system;
  }

  abbrev world : World
  world = machine_world p system family solved

  found_in : (kind : NodeKind) → HasFirst p kind → IsFound world kind
  found_in (FunctionName e) h = h
  found_in kind h = tt

  runs : IsRunnable world
  runs =
      runnable_met p (terms_behind p) world scene.valid scene.made scene.named scene.fit (library_follow (length p.types.terms)) (record { program = refl; space = refl }) solved.grounds scene.closed
      (λ n node there. found_in node.kind (functions_found p scene.made scene.defined n node there)) scene.automatic

  pub steppable : IsSteppable world (id (length p.types.terms))
  steppable = record {
    runs = runs;
    served = scene.served solved runs;
    begins = λ state next word steady frames_are e. begin_steady p system family solved state next word scene.main runs steady frames_are e;
  }

  pub started : Carried world (start p)
  started = record { steady = start_steady p system family solved runs; found = record { each = tt } }

  -- each state of each run
  pub carried : (words : List ℕ) (n : ℕ) → Carried world (run p words n)
  unfolding run types_with
  carried words n = run_sound world (id (length p.types.terms)) steppable (start p) words n started

  covered : (words : List ℕ) (n : ℕ) → Covered world (run p words n)
  covered words n = (carried words n).steady.covered

pub every_run_is_covered : EveryRunIsCovered
every_run_is_covered p system family scene = (solved p system family scene, covered p system family scene)
