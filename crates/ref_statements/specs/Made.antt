-- What the code's changes leave.
use Rattle.std.specs.Prelude.{List, []}
use Rattle.core_tree.specs.Seen.{core_of}
use Rattle.core_tree.specs.Range.{InRange}
use Rattle.ref_cells.specs.declared.instance.Instance.{Instance}
use Rattle.ref_state.specs.declared.frames.Frame.{Frame}
use Rattle.ref_state.specs.declared.doors.Change.{Change as Made}
use Rattle.ref_state.specs.Changes.{Change, changed_frame}
use Rattle.ref_blocks.specs.Plans.{blocks_by, IsPlan}
use Rattle.ref_statements.specs.declared.rows.World.{World}
use Rattle.ref_statements.specs.Rows.{Next}

abbrev pub change_by : List Instance → Made → Change
change_by memory made = record { off = made.off; on = made.on; blocks = blocks_by memory made.doors }

abbrev pub next_by : List Instance → Frame → Made → Next
next_by memory f made =
    record {
      memory = (blocks_by memory made.doors).memory;
      frame = changed_frame (change_by memory made) f;
      stores = [];
    }

-- a program whose numbers are in range, with its plan
pub record IsWorld (world : World) : Type 0 where
  pub range : InRange (core_of world.trees)
  pub plan : IsPlan (core_of world.trees) world.plan.now
