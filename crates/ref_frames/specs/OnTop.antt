-- A function's frame comes on top.
use Rattle.std.specs.Prelude.{List, ◌∷◌, ◌++◌, None}
use Rattle.ref_cells.specs.declared.cells.Cell.{Cell}
use Rattle.ref_state.specs.declared.frames.Frame.{Frame}
use Rattle.ref_state.specs.declared.notes.Notes.{Notes}
use Rattle.ref_state.specs.declared.state.State.{State}
use Rattle.ref_frames.specs.declared.entering.Activation.{Activation}

-- notes of a step that stores these pointers and has no target
abbrev pub only : List (Cell × Cell) → Notes
only stores = record { target = None; stores = stores }

abbrev pub on_top : State → List Frame → Notes → Activation → State
on_top state frames notes made =
    record state { memory = state.memory ++ made.fresh; frames = made.frame ∷ frames; notes = notes }
