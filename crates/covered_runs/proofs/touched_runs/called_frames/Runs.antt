-- So it is in each state of a run.
use Rattle.std.proofs.Common.{◌≡◌, ℕ, zero, suc, List, length, refl}
use Rattle.c_types.specs.declared.term.TypeId.{TypeId}
use Rattle.core_tree.specs.declared.node.Program.{Program}
use Rattle.sol_model.specs.declared.system.System.{System}
use Rattle.sol_model.specs.Families.{Family}
use Rattle.ref_state.specs.declared.state.State.{State}
use Rattle.ref_state.specs.ref_types.Types.{id, types_with}
use Rattle.ref_calls.specs.Outcomes.{Outcome, Goes, Ends, Stops}
use Rattle.ref_machine.specs.Step.{chooses}
use Rattle.ref_machine.specs.Run.{word_for, words_after, step_with, goes_on, run_from, start, run}
use Rattle.covering_laws.specs.covered_state.World.{World}
use Rattle.covered_runs.specs.covered_steps.covered_statements.Rows.{running_in}
use Rattle.covered_runs.specs.machine_sound.covered_start.Start.{machine_world}
use Rattle.covered_runs.specs.machine_sound.Carried.{IsSteppable}
use Rattle.covered_runs.specs.machine_sound.Scenes.{IsScene}
use Rattle.covered_runs.proofs.machine_sound.Steps.{step_sound}
use Rattle.covered_runs.proofs.machine_sound.Scenes.{solved, steppable, started}
use Rattle.covered_runs.specs.touched_runs.called_frames.Laws.{Layered, RunsLayered}
use Rattle.covered_runs.proofs.touched_runs.called_frames.Steps.{step_layered}

module _ (world : World) (characters : TypeId) (h : IsSteppable world characters) where
  runs_on : (n : ℕ) (state : State) (words : List ℕ) → Layered world state → Layered world (run_from (running_in world characters) n state words)
  runs_on zero state words now = now
  runs_on (suc n) state words now = by (step_with (running_in world characters) state words) refl (λ s ws c. runs_on n s ws c)
    where
      by : (o : Outcome) → step_with (running_in world characters) state words ≡ o → ((s : State) (ws : List ℕ) → Layered world s → Layered world (run_from (running_in world characters) n s ws))
          → Layered world (goes_on (run_from (running_in world characters) n) state (words_after (chooses (running_in world characters) state) words) o)
      by (Goes next) is more =
          let word = word_for (chooses (running_in world characters) state) words in
          more next (words_after (chooses (running_in world characters) state) words)
          (record { carried = step_sound world characters h state next word now.carried is; layered = step_layered world characters h state next word now.carried now.layered is })
      by (Ends status) is more = now
      by (Stops reason m) is more = now

module _ (p : Program) (system : System) (family : Family) (scene : IsScene p system family) where
  abbrev world : World
  world = machine_world p system family (solved p system family scene)

  begun : Layered world (start p)
  begun = record { carried = started p system family scene; layered = tt }

  layered : (words : List ℕ) (n : ℕ) → Layered world (run p words n)
  unfolding run types_with
  layered words n = runs_on world (id (length p.types.terms)) (steppable p system family scene) n (start p) words begun

pub runs_layered : RunsLayered
runs_layered p system family scene = (solved p system family scene, steppable p system family scene, layered p system family scene)
