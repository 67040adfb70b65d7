use Rattle.std.proofs.Common.{ℕ, ◌<◌}
use Rattle.machine_covers.specs.Bare.{AwaitedAt}
use Rattle.row_covers.specs.Scene.{sight_of}
use Rattle.machine_covers.proofs.bare.are_awaited.Given as goal

abbrev pub invariant-loop-i : goal.invariant-loop-i
invariant-loop-i l = (k : ℕ) → k < l.i → AwaitedAt (sight_of l.scene) l.memory l.frames k
