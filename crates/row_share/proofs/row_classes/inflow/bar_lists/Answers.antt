use Rattle.std.proofs.Common.{ℕ, List, Contains, sym, subst}
use Rattle.row_share.specs.row_classes.Flowing.{Bars}
use Rattle.row_share.proofs.row_classes.Flows.{bars_part}
use Rattle.row_share.proofs.row_classes.inflow.bar_lists.Goals as goal

pub loop-rows-preserved : goal.loop-rows-preserved
loop-rows-preserved c = bars_part (λ (rows : List ℕ) (row : ℕ). Contains rows row) c.args.lists.now c.loop-rows.rows-index c.rows-item.result c.args.inflows.now c.loop-rows.inflows c.bar.new.inflows
    c.loop-rows-test.true (sym c.rows-item.is) c.loop-rows.invariant (subst (λ (rows : List ℕ). Bars (λ row. Contains rows row) c.loop-rows.inflows c.bar.new.inflows) c.as_slice.ensures c.bar.ensures)
