-- What a step reads and writes stands in the sets of all functions that are on the stack.
use Rattle.std.specs.Prelude.{◌≡◌, ℕ, List, Some, Contains}
use Rattle.c_types.specs.declared.key.ObjectKey.{ObjectKey}
use Rattle.c_types.specs.declared.key.ObjectKey.TheVariants.{Entity as EntityKey}
use Rattle.c_types.specs.declared.term.PathStep.{PathStep}
use Rattle.c_types.specs.declared.term.TypeId.{TypeId}
use Rattle.sol_model.specs.Families.{Family, Has}
use Rattle.sol_model.specs.Targets.{IsGraphEdge}
use Rattle.row_numbers.specs.Functions.{number_of}
use Rattle.mod_ref.specs.declared.access.Access.{Access}
use Rattle.mod_ref.specs.Direct.{Touches}
use Rattle.mod_ref.specs.Touch.{IsClosedTouch}
use Rattle.ref_state.specs.declared.frames.Frame.{Frame}
use Rattle.ref_state.specs.declared.state.State.{State}
use Rattle.covering_laws.specs.covered_memory.Spots.{spot}
use Rattle.covering_laws.specs.covered_state.World.{World, trees_of, view_in, setting_in, IsFunctionAt}
use Rattle.covering_laws.specs.covered_state.Items.{IsOwned}
use Rattle.covered_runs.specs.covered_steps.covered_statements.Rows.{running_in}
use Rattle.covered_runs.specs.machine_sound.Carried.{IsSteppable}
use Rattle.covered_runs.specs.touched_runs.called_frames.Laws.{Layered}
use Rattle.covered_runs.specs.touched_runs.Accesses.{StepAccesses}

-- a family has one set for each function: each has what the function touches itself, and that of each callee is inside
-- its caller's
abbrev pub IsTouchOf : World → Access → Family → Type 0
IsTouchOf world access touch =
    IsClosedTouch (Touches (setting_in world) world.system world.family access)
    (IsGraphEdge world.system world.family) touch

-- each function with a body has its number
abbrev pub AreNumbered : World → Type 0
AreNumbered world =
    (f n : ℕ)
    → IsOwned world (EntityKey f) n
    → IsFunctionAt world (number_of (trees_of world) (view_in world) f) (EntityKey f)

-- the location stands in the set of a function
pub record IsTouchedBy (world : World) (touch : Family) (key : ObjectKey) (l : ℕ) : Type 0 where
  pub number : ℕ
  pub function : IsFunctionAt world number key
  pub has : Has touch number l

-- from a state that the sets cover, the location of each cell that the step reads or writes stands in the set of the
-- function of each frame
abbrev pub StepsTouch : Type 0
StepsTouch =
    (world : World) (characters : TypeId) (access : Access) (touch : Family) (state : State) (key : ObjectKey)
    (path : List PathStep) (l : ℕ) (f : Frame)
    → IsSteppable world characters
    → AreNumbered world
    → IsTouchOf world access touch
    → Layered world state
    → StepAccesses (running_in world characters) state access key path
    → spot world.program.types world.space key path ≡ Some l
    → Contains state.frames f
    → IsTouchedBy world touch f.function l
