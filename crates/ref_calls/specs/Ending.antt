-- Steps at the program's end (C11 7.22.4.2, 7.22.4.4).
use Rattle.std.specs.Prelude.{ℕ, ◌-◌, if◌then◌else◌, ℤ, List, [], ◌∷◌, Option, Some, None, Result, Ok, Err, length}
use Rattle.std.specs.Prelude.{take, slice_get}
use Rattle.c_types.specs.declared.key.ObjectKey.{ObjectKey}
use Rattle.c_types.specs.declared.key.ObjectKey.TheVariants.{Entity as EntityKey, Function as FunctionKey}
use Rattle.call_sites.specs.Signatures.{at_end}
use Rattle.ref_cells.specs.declared.cells.Reason.{Reason}
use Rattle.ref_cells.specs.declared.cells.Reason.TheVariants.{BadCall}
use Rattle.ref_cells.specs.declared.cells.Value.{Value}
use Rattle.ref_elements.specs.Types.{same_type}
use Rattle.ref_elements.specs.Runs.{◌>>=◌}
use Rattle.ref_state.specs.declared.items.Item.TheVariants.{Library}
use Rattle.ref_state.specs.declared.frames.Frame.{Frame}
use Rattle.ref_state.specs.declared.state.State.{State}
use Rattle.ref_frames.specs.declared.entering.Entry.{Entry}
use Rattle.ref_frames.specs.Running.{Running}
use Rattle.ref_frames.specs.Frames.{entered}
use Rattle.ref_frames.specs.OnTop.{on_top, only}
use Rattle.ref_calls.specs.Calls.{signature_of}
use Rattle.ref_calls.specs.Outcomes.{Outcome, Ends, outcome}

abbrev pub entry_of : ℕ → Option ℕ → Entry
entry_of f by = record { function = f; call = None; by = by }

-- a function's frame comes on top, and nothing is noted
abbrev pub enters : Running → State → Entry → List Value → Result State Reason
enters w state entry arguments =
    entered w (length state.memory) entry arguments >>= λ made. Ok (on_top state state.frames (only []) made)

-- the functions that are kept, but for the last one
abbrev pub but_last : List (ObjectKey × ℕ) → List (ObjectKey × ℕ)
but_last kept = take (length kept - 1) kept

abbrev pub last_of : List (ObjectKey × ℕ) → Option (ObjectKey × ℕ)
last_of kept = slice_get kept (length kept - 1)

-- a library function that was kept is pending in a frame of its own
abbrev pub pending_frame : ℕ → ℕ → Frame
pending_frame k n = record {
  function = FunctionKey k;
  call = None;
  by = Some 24;
  instances = [];
  items = Library n k [] ∷ [];
}

abbrev pub kept_entered : Running → State → ObjectKey → ℕ → Result State Reason
kept_entered w state (EntityKey e) n = enters w state (entry_of e (Some 24)) []
kept_entered w state (FunctionKey k) n =
    Ok (record state { frames = pending_frame k n ∷ state.frames; notes = only [] })
kept_entered w state key n = Err BadCall

-- the function that was kept last is called, by `atexit`
abbrev pub kept_called : Running → State → ObjectKey → ℕ → Result State Reason
kept_called w state key n =
    if same_type (signature_of w.trees key) at_end
    then kept_entered w (record state { kept = but_last state.kept }) key n else Err BadCall

-- at the program's end: the function that was kept last is called, or the program has finished
abbrev pub end_step : Running → State → ℤ → Option (ObjectKey × ℕ) → Outcome
end_step w state status None = Ends status
end_step w state status (Some kept) = outcome kept.1 (kept_called w state kept.0 kept.1)
