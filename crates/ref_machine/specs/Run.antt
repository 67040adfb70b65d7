-- Runs.
use Rattle.std.specs.Prelude.{ℕ, zero, suc, Bool, true, false, List, [], ◌∷◌, None, drop, length}
use Rattle.core_tree.specs.declared.node.Program.{Program}
use Rattle.obj_space.specs.Space.{locations_in}
use Rattle.ref_state.specs.declared.state.State.{State}
use Rattle.ref_state.specs.ref_types.Types.{library_ids}
use Rattle.ref_frames.specs.Running.{Running}
use Rattle.ref_frames.specs.OnTop.{only}
use Rattle.ref_calls.specs.Outcomes.{Outcome, Goes, Ends, Stops}
use Rattle.ref_start.specs.Start.{start_memory}
use Rattle.ref_machine.specs.Types.{running, trees_with}
use Rattle.ref_machine.specs.Step.{step, chooses}

-- the start: no frame, no status, nothing kept, noted or handed over
abbrev pub start : Program → State
start p = record {
  memory = start_memory (trees_with p) (locations_in p) (library_ids (length p.types.terms));
  frames = [];
  kept = [];
  status = None;
  notes = only [];
  handed = [];
}

abbrev pub first_word : List ℕ → ℕ
first_word [] = 0
first_word (word ∷ rest) = word

-- the word that a step takes, and those that are left: only a step that chooses takes one
abbrev pub word_for : Bool → List ℕ → ℕ
word_for true words = first_word words
word_for false words = 0

abbrev pub words_after : Bool → List ℕ → List ℕ
words_after true words = drop 1 words
words_after false words = words

-- the step of a state, with the word that it takes
abbrev pub step_with : Running → State → List ℕ → Outcome
step_with w state words = step w state (word_for (chooses w state) words)

abbrev pub goes_on : (State → List ℕ → State) → State → List ℕ → Outcome → State
goes_on run state words (Goes next) = run next words
goes_on run state words (Ends status) = state
goes_on run state words (Stops reason n) = state

-- the state after so many steps, or the one in which an earlier step had another answer
abbrev pub run_from : Running → ℕ → State → List ℕ → State
run_from w zero state words = state
run_from w (suc n) state words =
    goes_on (run_from w n) state (words_after (chooses w state) words) (step_with w state words)

unfoldable pub run : Program → List ℕ → ℕ → State
run p words n = run_from (running p) n (start p) words
