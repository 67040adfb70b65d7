use Rattle.std.proofs.Common.{ℕ, ◌<◌, List, Contains, length, get_or, refl, subst, arith}
use Rattle.std.proofs.lemmas.List.{take_all}
use Rattle.row_share.specs.row_classes.Flowing.{Bars}
use Rattle.row_share.proofs.row_classes.Flows.{bars_row}
use Rattle.row_share.proofs.row_classes.inflow.bar.Goals as goal

pub loop-row-preserved : goal.loop-row-preserved
loop-row-preserved c =
    let a : get_or c.args.rows.now c.loop-row.row-index 0 < length c.args.inflows.now = c.requires c.loop-row.row-index 0 c.loop-row-test.true in
    bars_row c.args.rows.now c.loop-row.row-index (get_or c.args.rows.now c.loop-row.row-index 0) c.args.inflows.now c.loop-row.inflows c.loop-row-test.true refl
    (let s = c.loop-row.invariant.sized in omega arith) c.loop-row.invariant

pub returns : goal.returns
returns c = subst (λ (rows : List ℕ). Bars (λ row. Contains rows row) c.args.inflows.now c.loop-row.inflows) (take_all c.loop-row.row-index c.args.rows.now (omega arith)) c.loop-row.invariant
