-- What a row leaves of the top frame.
use Rattle.std.specs.Prelude.{ℕ, List, [], Result, Ok, Err}
use Rattle.ref_cells.specs.declared.cells.Reason.{Reason}
use Rattle.ref_cells.specs.declared.cells.Cell.{Cell}
use Rattle.ref_cells.specs.declared.instance.Instance.{Instance}
use Rattle.ref_elements.specs.Outcomes.{Effect}
use Rattle.ref_state.specs.declared.items.Item.{Item}
use Rattle.ref_state.specs.declared.frames.Frame.{Frame}
use Rattle.ref_state.specs.Items.{settled, operand_taken}
use Rattle.ref_state.specs.Changes.{Blocks, Change, changed_frame}

-- what the row of a statement leaves
abbrev pub Move : Type 0
Move = Result Change Reason

-- the top item goes, others come
abbrev pub goes_on : Blocks → List Item → Move
goes_on s on = Ok (record { off = 1; on = on; blocks = s })

-- the statement is done
abbrev pub is_done : Blocks → Move
is_done s = goes_on s []

-- the memory, the top frame, and the pointers that were put into cells
pub record Next : Type 0 where
  pub memory : List Instance
  pub frame : Frame
  pub stores : List (Cell × Cell)

abbrev pub Row : Type 0
Row = Result Next Reason

-- items go and come, blocks are left and entered
abbrev pub changes : Frame → Move → Row
changes f (Ok change) = Ok (record { memory = change.blocks.memory; frame = changed_frame change f; stores = [] })
changes f (Err reason) = Err reason

-- the i-th operand is done next
abbrev pub takes : Frame → Blocks → ℕ → Row
takes f s i =
    Ok (record {
      memory = s.memory;
      frame = record f { instances = s.own; items = operand_taken i f.items };
      stores = [];
    })

-- a node was computed: its value goes to the item below
abbrev pub computes : Frame → ℕ → Effect → Row
computes f n (Ok e) =
    Ok (record {
      memory = e.memory;
      frame = record f { items = settled n e.outcome.value f.items };
      stores = e.outcome.stores;
    })
computes f n (Err reason) = Err reason
