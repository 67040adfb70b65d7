use Rattle.std.proofs.Common.{length}
use Rattle.ref_cells.proofs.putting.+find_scope.Given as goal

abbrev pub decreases-find_scope : goal.decreases-find_scope
decreases-find_scope l = length l.path.now
