use Rattle.std.proofs.Common.{◌≡◌, ◌++◌}
use Rattle.row_share.specs.share_laws.Renumbering.{twins}
use Rattle.row_share.proofs.reducing.add_twins.Given as goal

abbrev pub invariant-loop-location : goal.invariant-loop-location
invariant-loop-location l = l.list ≡ l.initial.list ++ twins l.share l.location
