-- What a step gives.
use Rattle.std.specs.Prelude.{◌≡◌, ℕ, ℤ, Result, Ok, Err}
use Rattle.ref_cells.specs.declared.cells.Reason.{Reason}
use Rattle.ref_state.specs.declared.state.State.{State}
use Rattle.ref_state.specs.declared.state.StepAnswer.{StepAnswer}
use Rattle.ref_state.specs.declared.state.StepAnswer.TheVariants.{Went, Finished, Stopped}

-- the next state; the end of the program, with its status; or a stop at a node
pub data Outcome : Type 0 where
  Goes : (state : State) → Outcome
  Ends : (status : ℤ) → Outcome
  Stops : (reason : Reason) (node : ℕ) → Outcome

abbrev pub outcome : ℕ → Result State Reason → Outcome
outcome n (Ok state) = Goes state
outcome n (Err reason) = Stops reason n

-- what a step of the code answers, and leaves: after every other answer, and want of memory, the state is as it was
abbrev pub Steps : {E : Type 0} → Result StepAnswer E → State → State → Outcome → Type 0
Steps (Ok Went) old new outcome = outcome ≡ Goes new
Steps (Ok (Finished status)) old new outcome = (outcome ≡ Ends status) × (new ≡ old)
Steps (Ok (Stopped reason n)) old new outcome = (outcome ≡ Stops reason n) × (new ≡ old)
Steps (Err e) old new outcome = new ≡ old
