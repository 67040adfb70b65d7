-- That frames stand so in each state of each run.
use Rattle.std.specs.Prelude.{◌≡◌, ℕ, List, length}
use Rattle.c_types.specs.declared.term.TypeId.{TypeId}
use Rattle.core_tree.specs.declared.node.Program.{Program}
use Rattle.sol_model.specs.declared.system.System.{System}
use Rattle.sol_model.specs.Families.{Family}
use Rattle.ref_state.specs.declared.state.State.{State}
use Rattle.ref_state.specs.ref_types.Types.{id}
use Rattle.ref_calls.specs.Outcomes.{Goes}
use Rattle.ref_machine.specs.Step.{step}
use Rattle.ref_machine.specs.Run.{run}
use Rattle.covering_laws.specs.covered_state.World.{World}
use Rattle.covered_runs.specs.covered_steps.covered_statements.Rows.{running_in}
use Rattle.covered_runs.specs.machine_sound.covered_start.Objects.{IsSolved}
use Rattle.covered_runs.specs.machine_sound.covered_start.Start.{machine_world}
use Rattle.covered_runs.specs.machine_sound.Carried.{Carried, IsSteppable}
use Rattle.covered_runs.specs.machine_sound.Scenes.{IsScene}
use Rattle.covered_runs.specs.touched_runs.called_frames.Layers.{FramesLayered}

-- each step that goes on keeps it
abbrev pub StepLayered : Type 0
StepLayered =
    (world : World) (characters : TypeId)
    → IsSteppable world characters
    → (state next : State) (word : ℕ)
    → Carried world state
    → FramesLayered state.frames
    → step (running_in world characters) state word ≡ Goes next
    → FramesLayered next.frames

-- a state that the sets cover, and whose frames stand so
pub record Layered (world : World) (state : State) : Type 0 where
  pub carried : Carried world state
  pub layered : FramesLayered state.frames

-- each state of each run of a program is one, and what its steps stand on is there
abbrev pub RunsLayered : Type 0
RunsLayered =
    (p : Program) (system : System) (family : Family)
    → IsScene p system family
    → (s : IsSolved p system family)
    × IsSteppable (machine_world p system family s) (id (length p.types.terms))
    × ((words : List ℕ) (n : ℕ) → Layered (machine_world p system family s) (run p words n))
