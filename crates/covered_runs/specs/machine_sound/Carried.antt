-- What holds of each state of a run, and that steps keep it.
use Rattle.std.specs.Prelude.{◌≡◌, ℕ, List, [], Ok}
use Rattle.c_types.specs.declared.term.TypeId.{TypeId}
use Rattle.ref_state.specs.declared.state.State.{State}
use Rattle.ref_calls.specs.Outcomes.{Goes}
use Rattle.ref_start.specs.Entries.{starts}
use Rattle.ref_machine.specs.Step.{step}
use Rattle.ref_machine.specs.Run.{run_from}
use Rattle.covering_laws.specs.covered_state.World.{World}
use Rattle.covered_runs.specs.covered_steps.covered_statements.Runnable.{IsRunnable, Steady}
use Rattle.covered_runs.specs.covered_steps.covered_statements.Rows.{running_in}
use Rattle.covered_runs.specs.covered_steps.covered_effects.Served.{IsServed}
use Rattle.covered_runs.specs.covered_steps.covered_effects.Steps.{KeptFound}

-- The sets cover the state, its items and frames stand on one another, and the functions that it keeps for the end are
-- called back by atexit.
pub record Carried (world : World) (state : State) : Type 0 where
  pub steady : Steady world state
  pub found : KeptFound world state

-- the step of a program that isn't at its end, from whatever state without a frame, keeps what is covered
abbrev pub BeginsSteady : World → TypeId → Type 0
BeginsSteady world characters =
    (state next : State) (word : ℕ)
    → Steady world state
    → state.frames ≡ []
    → starts (running_in world characters) state word ≡ Ok next
    → Steady world next

-- what steps of a world stand on: its nodes stand in their rows, the library's functions have their shapes and objects,
-- and a step without a frame is covered
pub record IsSteppable (world : World) (characters : TypeId) : Type 0 where
  pub runs : IsRunnable world
  pub served : IsServed world runs.stands characters
  pub begins : BeginsSteady world characters

-- each step that goes on keeps it, for every item, every kind of node, every function of the library and every word
abbrev pub StepSound : Type 0
StepSound =
    (world : World) (characters : TypeId)
    → IsSteppable world characters
    → (state next : State) (word : ℕ)
    → Carried world state
    → step (running_in world characters) state word ≡ Goes next
    → Carried world next

-- so does a run
abbrev pub RunSound : Type 0
RunSound =
    (world : World) (characters : TypeId)
    → IsSteppable world characters
    → (state : State) (words : List ℕ) (n : ℕ)
    → Carried world state
    → Carried world (run_from (running_in world characters) n state words)
