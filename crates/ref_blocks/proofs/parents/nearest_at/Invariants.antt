-- The nearest one is on the way that is left.
use Rattle.std.proofs.Common.{◌≡◌, ◌-◌, length}
use Rattle.ref_blocks.specs.Ways.{above, is_sought, nearest}
use Rattle.ref_blocks.proofs.parents.nearest_at.Given as goal

abbrev pub invariant-loop-p : goal.invariant-loop-p
invariant-loop-p l = nearest l.nodes (is_sought l.sought) (above l.nodes l.at) ≡ nearest l.nodes (is_sought l.sought) (above l.nodes l.n)

abbrev pub decreases-loop-p : goal.decreases-loop-p
decreases-loop-p l = length l.nodes - l.at
