-- That steps change those cells alone that they write, and what that says of runs.
use Rattle.std.specs.Prelude.{◌≡◌, ℕ, suc, List, ◌∷◌, Some, slice_get, Contains}
use Rattle.c_types.specs.declared.key.ObjectKey.{ObjectKey}
use Rattle.c_types.specs.declared.term.PathStep.{PathStep}
use Rattle.c_types.specs.declared.term.PathStep.TheVariants.{Index}
use Rattle.c_types.specs.declared.term.TypeId.{TypeId}
use Rattle.core_tree.specs.declared.node.Program.{Program}
use Rattle.core_tree.specs.declared.node.Unit.{Unit}
use Rattle.sol_model.specs.declared.system.System.{System}
use Rattle.sol_model.specs.Families.{Family}
use Rattle.obj_space.specs.Space.{locations_in}
use Rattle.obj_space.specs.View.{view_of}
use Rattle.mod_ref.specs.declared.effect_rows.Effects.{Effects}
use Rattle.mod_ref.specs.Touch.{AreEffects}
use Rattle.ref_cells.specs.declared.instance.Instance.{Instance}
use Rattle.ref_state.specs.declared.frames.Frame.{Frame}
use Rattle.ref_state.specs.declared.state.State.{State}
use Rattle.ref_state.specs.ref_types.Types.{types_with}
use Rattle.ref_calls.specs.Outcomes.{Goes}
use Rattle.ref_machine.specs.Step.{step}
use Rattle.ref_machine.specs.Run.{run}
use Rattle.covering_laws.specs.covered_memory.Spots.{spot}
use Rattle.covering_laws.specs.covered_state.World.{World, trees_of}
use Rattle.covered_runs.specs.covered_steps.covered_statements.Rows.{running_in}
use Rattle.covered_runs.specs.machine_sound.Carried.{IsSteppable}
use Rattle.covered_runs.specs.covered_programs.Programs.{IsAnalysed}
use Rattle.covered_runs.specs.touched_runs.Runs.{IsInRow}
use Rattle.covered_runs.specs.touched_runs.called_frames.Laws.{Layered}
use Rattle.changed_cells.specs.Cells.{IsChanged, IsBareChanged, StaysBut}

-- From a state that the sets cover and that has a frame, each instance of memory stays in its place, but for what the
-- step writes. A step without a frame is the program's start or its end, and no function's.
abbrev pub StepsWriteOnly : Type 0
StepsWriteOnly =
    (world : World) (characters : TypeId) (state next : State) (f : Frame) (rest : List Frame) (word i : ℕ)
    (old : Instance)
    → IsSteppable world characters
    → Layered world state
    → state.frames ≡ f ∷ rest
    → step (running_in world characters) state word ≡ Goes next
    → slice_get state.memory i ≡ Some old
    → (new : Instance) × (slice_get next.memory i ≡ Some new)
    × StaysBut (trees_of world) state.memory state.frames i old new

-- A program that is linked from units, the least sets of its system, and what its functions read and write: for every
-- run, however many steps, each cell that then holds something else than one step before has a location, and that
-- stands in the writes of the function of each frame that was on the stack. It speaks of all cells that objects have
-- after the step, also where an object gets its type, and so its cells, in the step.
abbrev pub ChangesCovered : Type 0
ChangesCovered =
    (units : List Unit) (p : Program) (system : System) (family : Family) (made : Effects) (words : List ℕ)
    (n i : ℕ) (key : ObjectKey) (path : List PathStep) (f : Frame)
    → IsAnalysed units p system family
    → AreEffects p (view_of (locations_in p)) system family made
    → IsChanged (types_with p.types) (run p words n).memory (run p words (suc n)).memory i key path
    → Contains (run p words n).frames f
    → (location : ℕ) × (spot (types_with p.types) (locations_in p) key path ≡ Some location)
    × IsInRow p made.writes f.function location

-- The same of an object that has no type yet: where a step changes it, the location of whatever may be in any of its
-- elements stands in those writes.
abbrev pub BareChangesCovered : Type 0
BareChangesCovered =
    (units : List Unit) (p : Program) (system : System) (family : Family) (made : Effects) (words : List ℕ)
    (n i k : ℕ) (key : ObjectKey) (path : List PathStep) (location : ℕ) (f : Frame)
    → IsAnalysed units p system family
    → AreEffects p (view_of (locations_in p)) system family made
    → IsBareChanged (run p words n).memory (run p words (suc n)).memory i key
    → spot (types_with p.types) (locations_in p) key (Index k ∷ path) ≡ Some location
    → Contains (run p words n).frames f
    → IsInRow p made.writes f.function location
