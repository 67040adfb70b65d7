use Rattle.std.proofs.Common.{◌≡◌, take, map}
use Rattle.row_share.specs.share_laws.Renumbering.{new_row, renumbered_function}
use Rattle.row_share.proofs.reducing.functions.Given as goal

abbrev pub invariant-loop-i : goal.invariant-loop-i
invariant-loop-i l = l.list ≡ map (renumbered_function (new_row l.row)) (take l.i l.system.functions)
