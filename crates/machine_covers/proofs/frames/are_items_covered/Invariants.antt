use Rattle.std.proofs.Common.{ℕ, ◌<◌, slice_get}
use Rattle.machine_covers.specs.Frames.{ItemAt}
use Rattle.row_covers.specs.Scene.{sight_of}
use Rattle.machine_covers.proofs.frames.are_items_covered.Given as goal

abbrev pub invariant-loop-k : goal.invariant-loop-k
invariant-loop-k l = (j : ℕ) → j < l.k → ItemAt (sight_of l.scene) l.memory l.key (slice_get l.items j)
