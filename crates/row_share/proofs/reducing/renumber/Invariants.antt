use Rattle.std.proofs.Common.{◌≡◌, ◌+◌}
use Rattle.sol_model.specs.Systems.{location_count}
use Rattle.row_share.specs.share_laws.Renumbering.{own_below}
use Rattle.row_share.proofs.share_laws.Numbering.{AreNumbersBelow}
use Rattle.row_share.proofs.reducing.renumber.Given as goal

abbrev pub invariant-loop-old : goal.invariant-loop-old
invariant-loop-old l = record {
  numbers : AreNumbersBelow (location_count l.system) l.share l.row.items l.old;
  rows : l.rows ≡ location_count l.system + own_below (location_count l.system) l.share l.old;
}
