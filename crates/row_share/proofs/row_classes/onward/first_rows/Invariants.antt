use Rattle.row_share.proofs.share_laws.Onward.{AreFirstRows}
use Rattle.row_share.proofs.row_classes.onward.first_rows.Given as goal

abbrev pub invariant-loop-row : goal.invariant-loop-row
invariant-loop-row l = AreFirstRows l.system l.rows.items l.row
