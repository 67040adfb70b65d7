use Rattle.std.proofs.Common.{ℕ, ◌<◌}
use Rattle.machine_covers.specs.Frames.{ArgumentAt}
use Rattle.row_covers.specs.Scene.{sight_of}
use Rattle.machine_covers.proofs.frames.are_arguments_covered.Given as goal

abbrev pub invariant-loop-k : goal.invariant-loop-k
invariant-loop-k l = (k : ℕ) → k < l.k → ArgumentAt (sight_of l.scene) l.memory l.nodes l.arguments k
