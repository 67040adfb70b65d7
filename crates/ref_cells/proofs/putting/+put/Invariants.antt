-- The path gets shorter.
use Rattle.std.proofs.Common.{◌+◌, ◌*◌, length}
use Rattle.ref_cells.proofs.putting.+put.Given as goal

abbrev pub decreases-put : goal.decreases-put
decreases-put l = 2 * length l.path.now + 1

abbrev pub decreases-put_below : goal.decreases-put_below
decreases-put_below l = 2 * length l.path.now
