use Rattle.std.proofs.Common.{ℕ, ◌<◌, slice_get}
use Rattle.machine_covers.specs.Bare.{LeavesAt}
use Rattle.machine_covers.proofs.bare.items_leave.Given as goal

abbrev pub invariant-loop-k : goal.invariant-loop-k
invariant-loop-k l = (j : ℕ) → j < l.k → LeavesAt l.i l.off j (slice_get l.items j)
