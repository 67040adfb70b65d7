-- That a run starts in a covered state, and that a step without a frame leaves it so (C11 5.1.2.2.1, 6.7.9).
use Rattle.std.specs.Prelude.{◌≡◌, ℕ, [], Some, Ok, length, slice_get}
use Rattle.c_types.specs.Table.{type_of}
use Rattle.core_tree.specs.declared.node.Entity.{Entity}
use Rattle.core_tree.specs.declared.node.Program.{Program}
use Rattle.link_names.specs.Faults.{IsMainType}
use Rattle.sol_model.specs.declared.system.System.{System}
use Rattle.sol_model.specs.Families.{Family}
use Rattle.obj_space.specs.Space.{locations_in}
use Rattle.ref_state.specs.declared.state.State.{State}
use Rattle.ref_state.specs.ref_types.Types.{id}
use Rattle.ref_start.specs.Begin.{main_in}
use Rattle.ref_start.specs.Entries.{starts}
use Rattle.ref_machine.specs.Run.{start}
use Rattle.covering_laws.specs.grown_programs.Grown.{with_types}
use Rattle.covering_laws.specs.covered_state.World.{World}
use Rattle.covered_runs.specs.covered_steps.covered_statements.Runnable.{IsRunnable, Steady}
use Rattle.covered_runs.specs.covered_steps.covered_statements.Rows.{running_in}
use Rattle.covered_runs.specs.machine_sound.covered_start.Objects.{terms_behind, IsSolved}

-- a program over the machine's table of types, with a system of it and a set for each row
abbrev pub machine_world : (p : Program) (system : System) (family : Family) → IsSolved p system family → World
machine_world p system family s = record {
  program = with_types p (terms_behind p);
  space = locations_in p;
  system = system;
  is_system = s.is_system;
  family = family;
}

-- the state in which a run starts is covered, and nothing stands on anything
abbrev pub StartSteady : Type 0
StartSteady =
    (p : Program) (system : System) (family : Family) (s : IsSolved p system family)
    → IsRunnable (machine_world p system family s)
    → Steady (machine_world p system family s) (start p)

-- the function that starts a program without entries is of one of main's types
abbrev pub StartsRight : Program → Type 0
StartsRight p =
    p.entries.items ≡ []
    → (main : ℕ) (entity : Entity)
    → main_in p.entities.items ≡ Some main
    → slice_get p.entities.items main ≡ Some entity
    → IsMainType (type_of p.types entity.ty.0)

-- the step without a frame of a program that isn't at its end, which enters main or one of the program's entries, or
-- ends the program, leaves the state covered, and its items stacked
abbrev pub BeginSteady : Type 0
BeginSteady =
    (p : Program) (system : System) (family : Family) (s : IsSolved p system family) (state next : State) (word : ℕ)
    → StartsRight p
    → IsRunnable (machine_world p system family s)
    → Steady (machine_world p system family s) state
    → state.frames ≡ []
    → starts (running_in (machine_world p system family s) (id (length p.types.terms))) state word ≡ Ok next
    → Steady (machine_world p system family s) next
