-- The text of a run: what each of its steps noted, in order, and how it ended.
use Rattle.std.specs.Prelude.{◌≡◌, ℕ, ℤ, zero, suc, Bool, true, false, List, ◌++◌, Option, Some, None, codes}
use Rattle.core_tree.specs.declared.node.Program.{Program}
use Rattle.ref_cells.specs.declared.cells.Reason.{Reason}
use Rattle.ref_state.specs.declared.state.State.{State}
use Rattle.ref_calls.specs.Outcomes.{Outcome, Goes, Ends, Stops}
use Rattle.ref_machine.specs.Types.{running}
use Rattle.ref_machine.specs.Step.{chooses}
use Rattle.ref_machine.specs.Run.{start, step_with, words_after}
use Rattle.run_text.specs.Lines.{notes_text, finished_line, stopped_line, went_line}

-- a text, and whether the last step stopped
pub record Told : Type 0 where
  pub text : List ℕ
  pub stopped : Bool

abbrev pub before : List ℕ → Told → Told
before text rest = record { text = text ++ rest.text; stopped = rest.stopped }

-- what is told of a step, and of those behind it where the run goes on
abbrev pub told_by : Program → (State → Told) → Outcome → Told
told_by p more (Goes state) = before (notes_text p state.memory state.notes) (more state)
told_by p more (Ends status) = record { text = finished_line status; stopped = false }
told_by p more (Stops reason n) = record { text = stopped_line p reason n; stopped = true }

-- what is told of so many steps from a state on, in a run of `steps` steps
unfoldable pub told_from : Program → ℕ → ℕ → State → List ℕ → Told
told_from p steps zero state words = record { text = went_line steps; stopped = false }
told_from p steps (suc n) state words =
    told_by p (λ next. told_from p steps n next (words_after (chooses (running p) state) words))
    (step_with (running p) state words)

-- the text of the first so many steps of a program, which take these words
unfoldable pub run_told : Program → List ℕ → ℕ → Told
run_told p words steps = before (codes "run 1\n") (told_from p steps steps (start p) words)

-- ---- the code's turn
-- what a step adds to a text: the lines of what it noted, where the run goes on, else that of its end
abbrev pub Adds : Program → List ℕ → List ℕ → State → Outcome → Option Bool → Type 0
Adds p old new state outcome None =
    (outcome ≡ Goes state) × (new ≡ old ++ notes_text p state.memory state.notes)
Adds p old new state outcome (Some false) =
    (status : ℤ) × (outcome ≡ Ends status) × (new ≡ old ++ finished_line status)
Adds p old new state outcome (Some true) =
    (reason : Reason) × (n : ℕ) × (outcome ≡ Stops reason n) × (new ≡ old ++ stopped_line p reason n)
