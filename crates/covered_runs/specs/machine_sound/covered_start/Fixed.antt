-- That the fixed values of the initialisers of static objects are covered at their nodes.
use Rattle.std.specs.Prelude.{◌≡◌, ℕ, List, Some}
use Rattle.ref_cells.specs.declared.cells.Value.{Value}
use Rattle.ref_cells.specs.declared.instance.Instance.{Instance}
use Rattle.ref_start.specs.Fixed.{fixed}
use Rattle.covering_laws.specs.covered_memory.Covered.{MemoryIn}
use Rattle.covering_laws.specs.covered_state.World.{World, trees_of, sets_of}
use Rattle.covering_laws.specs.covered_state.Items.{NodeIn}
use Rattle.covered_runs.specs.covered_steps.covered_values.Values.{Stands}
use Rattle.covered_runs.specs.machine_sound.covered_start.Objects.{TakeAny}

-- over a covered memory in which no object waits for a type
abbrev pub FixedCovered : Type 0
FixedCovered =
    (world : World) (memory : List Instance) (n : ℕ) (v : Value)
    → Stands world
    → MemoryIn (sets_of world) memory
    → TakeAny (sets_of world) memory
    → fixed (trees_of world) memory n ≡ Some v
    → NodeIn world memory n v
