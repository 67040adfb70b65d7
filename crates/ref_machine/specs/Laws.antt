-- Words where nothing chooses.
use Rattle.std.specs.Prelude.{◌≡◌, ℕ, false}
use Rattle.ref_state.specs.declared.state.State.{State}
use Rattle.ref_frames.specs.Running.{Running}
use Rattle.ref_machine.specs.Step.{step, chooses}

-- a step that doesn't choose is the same with any two words
abbrev pub WordIsFree : Type 0
WordIsFree =
    (w : Running) (state : State) (a b : ℕ)
    → chooses w state ≡ false
    → step w state a ≡ step w state b
