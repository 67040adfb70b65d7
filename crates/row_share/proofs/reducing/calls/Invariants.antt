use Rattle.std.proofs.Common.{◌≡◌, take, map}
use Rattle.row_share.specs.share_laws.Renumbering.{new_row, renumbered_call}
use Rattle.row_share.proofs.reducing.calls.Given as goal

abbrev pub invariant-loop-i : goal.invariant-loop-i
invariant-loop-i l = l.list ≡ map (renumbered_call (new_row l.row)) (take l.i l.system.calls)
