-- What a step that computes nothing leaves of the top frame: items are taken off and put on, and blocks are left
-- and entered.
use Rattle.std.specs.Prelude.{ℕ, false, List, [], ◌∷◌, slice_get}
use Rattle.ref_cells.specs.declared.instance.Instance.{Instance}
use Rattle.ref_mem.specs.Writes.{changed}
use Rattle.ref_state.specs.declared.items.Item.{Item}
use Rattle.ref_state.specs.declared.frames.Frame.{Frame}
use Rattle.ref_state.specs.Items.{replaced}

-- the memory, and the instances of a frame's parameters and open blocks
pub record Blocks : Type 0 where
  pub memory : List Instance
  pub own : List ℕ

-- an instance has ended
abbrev pub ended_one : List Instance → ℕ → List Instance
ended_one memory i = changed memory i (slice_get memory i) (λ inst. record inst { live = false })

abbrev pub ended_all : List Instance → List ℕ → List Instance
ended_all memory [] = memory
ended_all memory (i ∷ rest) = ended_all (ended_one memory i) rest

-- so many items go from the top, others come on top, and the blocks are these
pub record Change : Type 0 where
  pub off : ℕ
  pub on : List Item
  pub blocks : Blocks

abbrev pub blocks_of : List Instance → Frame → Blocks
blocks_of memory f = record { memory = memory; own = f.instances }

abbrev pub changed_frame : Change → Frame → Frame
changed_frame change f = record f { instances = change.blocks.own; items = replaced change.off change.on f.items }
