-- Each state of a run is covered.
use Rattle.std.proofs.Common.{◌≡◌, ℕ, zero, suc, List, refl}
use Rattle.c_types.specs.declared.term.TypeId.{TypeId}
use Rattle.ref_state.specs.declared.state.State.{State}
use Rattle.ref_calls.specs.Outcomes.{Outcome, Goes, Ends, Stops}
use Rattle.ref_machine.specs.Step.{chooses}
use Rattle.ref_machine.specs.Run.{word_for, words_after, step_with, goes_on, run_from}
use Rattle.covering_laws.specs.covered_state.World.{World}
use Rattle.covered_runs.specs.covered_steps.covered_statements.Rows.{running_in}
use Rattle.covered_runs.specs.machine_sound.Carried.{Carried, IsSteppable, RunSound}
use Rattle.covered_runs.proofs.machine_sound.Steps.{step_sound}

module _ (world : World) (characters : TypeId) (h : IsSteppable world characters) where
  runs_on : (n : ℕ) (state : State) (words : List ℕ) → Carried world state → Carried world (run_from (running_in world characters) n state words)
  runs_on zero state words carried = carried
  runs_on (suc n) state words carried = by (step_with (running_in world characters) state words) refl (λ s ws c. runs_on n s ws c)
    where
      by : (o : Outcome) → step_with (running_in world characters) state words ≡ o → ((s : State) (ws : List ℕ) → Carried world s → Carried world (run_from (running_in world characters) n s ws))
          → Carried world (goes_on (run_from (running_in world characters) n) state (words_after (chooses (running_in world characters) state) words) o)
      by (Goes next) is more =
          more next (words_after (chooses (running_in world characters) state) words)
          (step_sound world characters h state next (word_for (chooses (running_in world characters) state) words) carried is)
      by (Ends status) is more = carried
      by (Stops reason m) is more = carried

pub run_sound : RunSound
run_sound world characters h state words n carried = runs_on world characters h n state words carried
