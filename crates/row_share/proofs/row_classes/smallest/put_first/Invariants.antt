use Rattle.row_share.specs.share_laws.Firsts.{AreFirstSo}
use Rattle.row_share.proofs.row_classes.smallest.put_first.Given as goal

abbrev pub invariant-loop-row : goal.invariant-loop-row
invariant-loop-row l = AreFirstSo l.classes l.first l.rows.items l.row
