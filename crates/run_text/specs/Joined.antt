-- What a run's text says of the states of the run.
use Rattle.std.specs.Prelude.{◌≡◌, ℕ, ℤ, zero, suc, ◌<◌, ◌↔◌, Bool, true, false, List, [], ◌++◌, codes}
use Rattle.core_tree.specs.declared.node.Program.{Program}
use Rattle.ref_cells.specs.declared.cells.Reason.{Reason}
use Rattle.ref_state.specs.declared.state.State.{State}
use Rattle.ref_calls.specs.Outcomes.{Outcome, Goes, Ends, Stops}
use Rattle.ref_machine.specs.Types.{running}
use Rattle.ref_machine.specs.Step.{chooses}
use Rattle.ref_machine.specs.Run.{start, run, run_from, step_with, words_after}
use Rattle.run_text.specs.Lines.{notes_text, finished_line, stopped_line, went_line}
use Rattle.run_text.specs.RunText.{Told, before, run_told}

-- the words that are left after so many steps, or where an earlier step had another answer
abbrev pub left_by : (State → List ℕ → List ℕ) → List ℕ → List ℕ → Outcome → List ℕ
left_by left words after (Goes next) = left next after
left_by left words after (Ends status) = words
left_by left words after (Stops reason n) = words

abbrev pub words_from : Program → ℕ → State → List ℕ → List ℕ
words_from p zero state words = words
words_from p (suc n) state words =
    left_by (words_from p n) words (words_after (chooses (running p) state) words)
    (step_with (running p) state words)

-- the step behind so many
abbrev pub step_behind : Program → ℕ → State → List ℕ → Outcome
step_behind p n state words = step_with (running p) (run_from (running p) n state words) (words_from p n state words)

-- the step of a program's run behind so many
unfoldable pub run_step : Program → List ℕ → ℕ → Outcome
run_step p words n = step_behind p n (start p) words

-- what the step to a state noted
abbrev pub noted_in : Program → State → List ℕ
noted_in p state = notes_text p state.memory state.notes

-- so many texts, one behind the other
abbrev pub texts_to : (ℕ → List ℕ) → ℕ → List ℕ
texts_to text zero = []
texts_to text (suc n) = text 0 ++ texts_to (λ k. text (suc k)) n

-- How a text ends that is told of n steps, where `count` of them went, and the step behind these has that answer: all
-- went, or the program is at its end, or the step isn't defined.
pub data HasEnded (p : Program) (steps n count : ℕ) (step : Outcome) (stopped : Bool) (last : List ℕ) : Type 0 where
  all_went :
      count ≡ n
      → stopped ≡ false
      → last ≡ went_line steps
      → HasEnded p steps n count step stopped last
  at_end : (status : ℤ)
      → count < n
      → step ≡ Ends status
      → stopped ≡ false
      → last ≡ finished_line status
      → HasEnded p steps n count step stopped last
  at_stop : (reason : Reason) (node : ℕ)
      → count < n
      → step ≡ Stops reason node
      → stopped ≡ true
      → last ≡ stopped_line p reason node
      → HasEnded p steps n count step stopped last

-- A text is told of the first n of these states and steps: what the steps that went noted, in order, and how it ended.
pub record IsTold (p : Program) (steps n : ℕ) (state : ℕ → State) (step : ℕ → Outcome) (told : Told) : Type 0 where
  pub count : ℕ
  pub last : List ℕ
  pub went : (k : ℕ) → k < count → step k ≡ Goes (state (suc k))
  pub text : told.text ≡ texts_to (λ k. noted_in p (state (suc k))) count ++ last
  pub ended : HasEnded p steps n count (step count) told.stopped last

-- one of the first n steps isn't defined
pub record SomeStops (n : ℕ) (step : ℕ → Outcome) : Type 0 where
  pub at : ℕ
  pub reason : Reason
  pub node : ℕ
  pub within : at < n
  pub stops : step at ≡ Stops reason node

-- the text of a run is told of its states, and says of each stop
pub record IsRunTold (p : Program) (words : List ℕ) (steps : ℕ) : Type 0 where
  pub rest : Told
  pub begins : run_told p words steps ≡ before (codes "run 1\n") rest
  pub told : IsTold p steps steps (run p words) (run_step p words) rest
  pub stopped : (run_told p words steps).stopped ≡ true ↔ SomeStops steps (run_step p words)

-- each run's text is told so
abbrev pub TextJoinsRun : Type 0
TextJoinsRun = (p : Program) (words : List ℕ) (steps : ℕ) → IsRunTold p words steps
