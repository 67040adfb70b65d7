-- The topmost node stays the same on the way.
use Rattle.std.proofs.Common.{◌≡◌, ◌-◌, length}
use Rattle.ref_blocks.specs.Ways.{root_of}
use Rattle.ref_blocks.proofs.parents.root_at.Given as goal

abbrev pub invariant-loop-p : goal.invariant-loop-p
invariant-loop-p l = root_of l.nodes l.at ≡ root_of l.nodes l.n

abbrev pub decreases-loop-p : goal.decreases-loop-p
decreases-loop-p l = length l.nodes - l.at
