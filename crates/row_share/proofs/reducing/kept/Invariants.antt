use Rattle.std.proofs.Common.{◌≡◌, take, map, not}
use Rattle.std.specs.List.{filter}
use Rattle.row_share.specs.share_laws.Renumbering.{new_row, renumbered, is_idle}
use Rattle.row_share.proofs.reducing.kept.Given as goal

abbrev pub invariant-loop-i : goal.invariant-loop-i
invariant-loop-i l = l.list ≡ filter (λ constraint. not (is_idle constraint)) (map (renumbered (new_row l.row)) (take l.i l.system.constraints))
