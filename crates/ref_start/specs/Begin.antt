-- The program's first step (C11 5.1.2.2.1).
use Rattle.std.specs.Prelude.{ℕ, ◌+◌, ◌%◌, pos, List, [], ◌∷◌, ◌++◌, Option, Some, None, Result, Ok, Err}
use Rattle.std.specs.Prelude.{length, map, replicate, slice_get, find}
use Rattle.std.specs.List.{enumerate_from, range_with_len}
use Rattle.c_types.specs.declared.key.ObjectKey.{ObjectKey}
use Rattle.c_types.specs.declared.key.ObjectKey.TheVariants.{Library as LibraryKey}
use Rattle.core_tree.specs.declared.node.Entity.{Entity}
use Rattle.core_tree.specs.Typed.{CoreTrees}
use Rattle.obj_space.specs.View.{view_of}
use Rattle.row_numbers.specs.declared.functions.Role.TheVariants.{Main}
use Rattle.row_numbers.specs.Functions.{plays, parameters_of}
use Rattle.ref_cells.specs.declared.cells.Reason.{Reason}
use Rattle.ref_cells.specs.declared.cells.Reason.TheVariants.{Mismatch}
use Rattle.ref_cells.specs.declared.cells.Cell.{Cell}
use Rattle.ref_cells.specs.declared.cells.Cell.TheVariants.{Number, Null}
use Rattle.ref_cells.specs.declared.instance.Instance.{Instance}
use Rattle.ref_mem.specs.Reads.{one_cell}
use Rattle.ref_mem.specs.Writes.{changed}
use Rattle.ref_cells.specs.Cells.{CellList}
use Rattle.ref_elements.specs.Runs.{◌>>=◌}
use Rattle.ref_elements.specs.Outcomes.{start_of}
use Rattle.ref_elements.specs.Objects.{object_from}
use Rattle.ref_texts.specs.Writing.{text_of}
use Rattle.ref_state.specs.declared.state.State.{State}
use Rattle.ref_state.specs.ref_types.Types.{id}
use Rattle.ref_frames.specs.declared.entering.Entry.{Entry}
use Rattle.ref_frames.specs.declared.entering.Activation.{Activation}
use Rattle.ref_frames.specs.Running.{Running}
use Rattle.ref_frames.specs.Frames.{entered}
use Rattle.ref_frames.specs.OnTop.{on_top, only}
use Rattle.ref_start.specs.Objects.{cells_from, text_object}

abbrev pub number_of : Option (ℕ × Entity) → Option ℕ
number_of None = None
number_of (Some entry) = Some entry.0

-- the function that starts the program
abbrev pub main_in : List Entity → Option ℕ
main_in entities = number_of (find (λ entry. plays Main entry.1) (enumerate_from 0 entities))

abbrev pub main_of : CoreTrees → Option ℕ
main_of u = main_in u.entities

-- the texts of main's arguments, which all hold the word's
abbrev pub text_of_word : Running → ℕ → Instance
text_of_word w word = text_object (LibraryKey 10) (id (w.characters.0 + 1)) (text_of word)

abbrev pub texts : Running → ℕ → ℕ → List Instance
texts w count word = replicate count (text_of_word w word)

-- `<argv>`: pointers to so many texts, the first of them of that number, and null behind them
abbrev pub argument_pointers : ℕ → ℕ → List Cell
argument_pointers first count = map start_of (range_with_len first count) ++ Null ∷ []

-- main is entered by nothing, and so is an entry
abbrev pub main_entry : ℕ → Entry
main_entry main = record { function = main; call = None; by = None }

-- what `<argv>` holds, and what is made where main is entered with arguments, in a memory of so many instances: the
-- objects of the texts come first
abbrev pub with_texts : Running → ℕ → ℕ → ℕ → Activation → CellList × Activation
with_texts w before count word made =
    (cells_from 0 (argument_pointers before count), record made { fresh = texts w count word ++ made.fresh })

abbrev pub made_by : Running → ℕ → ℕ → ℕ → ℕ → ℕ → Result (CellList × Activation) Reason
made_by w before argv main count word =
    entered w (before + count) (main_entry main) (one_cell (Number (pos count)) ∷ one_cell (start_of argv) ∷ [])
    >>= λ made. Ok (with_texts w before count word made)

abbrev pub main_made : Running → ℕ → ℕ → ℕ → ℕ → Result (CellList × Activation) Reason
main_made w before argv main word = made_by w before argv main (1 + word % 8) word

-- `<argv>` holds these cells, and main's frame comes on top
abbrev pub begun : State → ℕ → CellList × Activation → State
begun state argv made =
    on_top (record state {
      memory = changed state.memory argv (slice_get state.memory argv) (λ inst. record inst { cells = made.0 });
    })
    state.frames (only []) made.1

abbrev pub begins_at : Running → State → ℕ → ℕ → Option ℕ → Result State Reason
begins_at w state main word None = Err Mismatch
begins_at w state main word (Some argv) =
    main_made w (length state.memory) argv main word >>= λ made. Ok (begun state argv made)

abbrev pub begins_with : Running → State → ℕ → ℕ → List ObjectKey → Result State Reason
begins_with w state main word [] =
    entered w (length state.memory) (main_entry main) [] >>= λ made. Ok (on_top state state.frames (only []) made)
begins_with w state main word (key ∷ rest) =
    begins_at w state main word (object_from 9 0 state.memory)

abbrev pub begins : Running → State → ℕ → Option ℕ → Result State Reason
begins w state word None = Err Mismatch
begins w state word (Some main) = begins_with w state main word (parameters_of w.trees (view_of w.space) main)

-- the first step: main is entered, with arguments that the word chooses
unfoldable pub begin : Running → State → ℕ → Result State Reason
begin w state word = begins w state word (main_of w.trees)
