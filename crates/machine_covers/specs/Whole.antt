-- What the code decides of a state is what it means that sets cover it.
use Rattle.std.specs.Prelude.{◌↔◌, List, length}
use Rattle.core_tree.specs.declared.node.Program.{Program}
use Rattle.core_tree.specs.Range.{InRange}
use Rattle.sol_model.specs.declared.system.System.{System}
use Rattle.sol_model.specs.Families.{Family}
use Rattle.sol_model.specs.Systems.{IsValid}
use Rattle.obj_space.specs.declared.location.Location.{Location}
use Rattle.obj_space.specs.View.{view_of}
use Rattle.normal_form.specs.SystemOf.{SystemOf}
use Rattle.ref_cells.specs.Places.{AreKnown}
use Rattle.ref_state.specs.declared.state.State.{State}
use Rattle.ref_state.specs.ref_types.Types.{library_terms}
use Rattle.ref_machine.specs.declared.machine.Machine.{Machine}
use Rattle.ref_machine.specs.Machines.{IsMachineOf}
use Rattle.covering_laws.specs.covered_state.World.{World, trees_of}
use Rattle.covering_laws.specs.grown_programs.Grown.{with_types}
use Rattle.machine_covers.specs.Covers.{IsCovered}
use Rattle.machine_covers.specs.Decided.{StateBy, sight_over}
use Rattle.row_covers.specs.Scene.{Sight}

abbrev pub sight_in : World → Sight
sight_in world =
    record { trees = trees_of world; space = world.space; system = world.system; family = world.family }

-- of each state whose instances have types of the table
abbrev pub StateExact : Type 0
StateExact =
    (world : World) (state : State)
    → InRange (trees_of world)
    → IsValid world.system
    → AreKnown (length world.program.types.terms) state.memory
    → StateBy (sight_in world) state ↔ IsCovered world state

-- the program over the table of types that its machine has
abbrev pub machine_program : Program → Program
machine_program p = with_types p (library_terms (length p.types.terms))

-- it, with locations, a system of it and a set for each row
abbrev pub world_over : (p : Program) (space : List Location) (system : System) (family : Family)
    → SystemOf (machine_program p) (view_of space) system
    → World
world_over p space system family is =
    record { program = machine_program p; space = space; system = system; is_system = is; family = family }

-- an answer tells whether the sets cover a state, where the system is the program's
abbrev pub TellsCovered : Type 0 → Program → List Location → System → Family → State → Type 0
TellsCovered answer p space system family state =
    (is : SystemOf (machine_program p) (view_of space) system)
    → answer ↔ IsCovered (world_over p space system family is) state

-- the state of a program's machine is accepted exactly where the sets cover it
abbrev pub CoversExact : Type 0
CoversExact =
    (p : Program) (space : List Location) (system : System) (family : Family) (machine : Machine)
    → IsMachineOf p machine
    → IsValid system
    → TellsCovered (StateBy (sight_over p space system family) machine.state) p space system family machine.state
