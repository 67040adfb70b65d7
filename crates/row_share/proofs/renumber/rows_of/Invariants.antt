use Rattle.std.proofs.Common.{◌≡◌, take, map}
use Rattle.row_share.specs.share_laws.Renumbering.{new_row}
use Rattle.row_share.proofs.renumber.rows_of.Given as goal

abbrev pub invariant-loop-old : goal.invariant-loop-old
invariant-loop-old l = l.list ≡ map (new_row l.row) (take l.old-index l.rows)
