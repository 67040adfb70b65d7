-- The innermost block is on the way that is left.
use Rattle.std.proofs.Common.{◌≡◌, ◌-◌, length, slice_get}
use Rattle.ref_blocks.specs.Ways.{above}
use Rattle.ref_blocks.specs.Around.{blocks_in}
use Rattle.ref_blocks.proofs.parents.block_around.Given as goal

abbrev pub invariant-loop-p : goal.invariant-loop-p
invariant-loop-p l = slice_get (blocks_in l.nodes (above l.nodes l.at)) 0 ≡ slice_get (blocks_in l.nodes (above l.nodes l.n)) 0

abbrev pub decreases-loop-p : goal.decreases-loop-p
decreases-loop-p l = length l.nodes - l.at
