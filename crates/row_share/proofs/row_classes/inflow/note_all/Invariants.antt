use Rattle.std.proofs.Common.{◌≡◌, ℕ, ◌<◌, length, take}
use Rattle.row_share.specs.row_classes.Flowing.{inflow_at, inflow_of}
use Rattle.row_share.specs.share_laws.Classes.{adding}
use Rattle.row_share.proofs.row_classes.inflow.note_all.Given as goal

abbrev pub invariant-loop-i : goal.invariant-loop-i
invariant-loop-i l = (row : ℕ) → row < length l.inflows → inflow_at l.inflows row ≡ inflow_of (adding row (take l.i l.system.constraints))
