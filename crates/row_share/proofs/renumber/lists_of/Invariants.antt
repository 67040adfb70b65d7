use Rattle.std.proofs.Common.{◌≡◌, take, map}
use Rattle.row_share.specs.share_laws.Renumbering.{new_row}
use Rattle.row_share.proofs.renumber.lists_of.Given as goal

abbrev pub invariant-loop-rows : goal.invariant-loop-rows
invariant-loop-rows l = l.made ≡ map (map (new_row l.row)) (take l.rows-index l.lists)
