use Rattle.std.proofs.Common.{ℕ, ◌+◌, List, Some, sym, subst}
use Rattle.std.proofs.Math.ListN.{set}
use Rattle.row_share.specs.share_laws.Firsts.{AreFirstSo}
use Rattle.row_share.proofs.share_laws.Firsting.{firsts_more}
use Rattle.row_share.proofs.row_classes.smallest.put_first.Goals as goal

pub loop-row-preserved : goal.loop-row-preserved
loop-row-preserved c =
    subst (λ (rows : List ℕ). AreFirstSo c.args.classes.now (set c.loop-row.first c.class_at-class.result (Some c.least_of-least.result)) rows (c.loop-row.row + 1)) (sym c.in_ok-push.ensures.items)
    (firsts_more c.args.classes.now c.loop-row.first c.loop-row.rows.items c.loop-row.row c.class_at-class.result c.least_of-least.result c.loop-row.invariant
    (c.requires.known c.loop-row.row c.class_at-class.result c.class_at-class.ensures) c.class_at-class.ensures c.least_of-least.ensures)
