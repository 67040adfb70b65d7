-- What the code decides of a state.
use Rattle.std.specs.Prelude.{ℕ, List, reverse}
use Rattle.c_types.specs.declared.key.ObjectKey.{ObjectKey}
use Rattle.c_types.specs.declared.term.TypeId.{TypeId}
use Rattle.core_tree.specs.declared.node.Program.{Program}
use Rattle.sol_model.specs.declared.system.System.{System}
use Rattle.sol_model.specs.Families.{Family}
use Rattle.obj_space.specs.declared.location.Location.{Location}
use Rattle.ref_cells.specs.declared.cells.Cell.{Cell}
use Rattle.ref_cells.specs.declared.instance.Instance.{Instance}
use Rattle.ref_state.specs.declared.frames.Frame.{Frame}
use Rattle.ref_state.specs.declared.notes.Notes.{Notes}
use Rattle.ref_state.specs.declared.state.State.{State}
use Rattle.ref_machine.specs.Types.{trees_with}
use Rattle.machine_covers.specs.Bare.{AwaitedAll}
use Rattle.machine_covers.specs.Frames.{FramesBy, KeptAll, NotesBy, HandedAll}
use Rattle.row_covers.specs.Objects.{MemoryBy}
use Rattle.row_covers.specs.Scene.{Sight, sets_at}

-- memory, frames with the top one last, kept functions, notes, what was handed over, and objects that wait for their
-- type
abbrev pub PartsBy : Sight
    → List Instance
    → List Frame
    → List (ObjectKey × ℕ)
    → Notes
    → List (TypeId × Cell)
    → Type 0
PartsBy scene memory frames kept notes handed =
    MemoryBy (sets_at scene) memory
    × FramesBy scene memory frames
    × KeptAll scene kept
    × NotesBy scene memory notes
    × HandedAll scene memory handed
    × AwaitedAll scene memory frames

abbrev pub StateBy : Sight → State → Type 0
StateBy scene state = PartsBy scene state.memory (reverse state.frames) state.kept state.notes state.handed

-- a program over its machine's table of types, with its locations, its system and a set for each row
abbrev pub sight_over : Program → List Location → System → Family → Sight
sight_over p space system family = record { trees = trees_with p; space = space; system = system; family = family }
