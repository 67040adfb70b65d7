use Rattle.std.proofs.Common.{ℕ, List, Contains, subst}
use Rattle.std.proofs.lemmas.Option.{get_or_from_slice_get, slice_get_within}
use Rattle.sol_model.specs.declared.system.CallSite.{CallSite}
use Rattle.row_share.specs.row_classes.Flowing.{Bars}
use Rattle.row_share.proofs.row_classes.Flows.{bars_part}
use Rattle.row_share.proofs.row_classes.inflow.bar_results.Goals as goal

pub loop-i-preserved : goal.loop-i-preserved
loop-i-preserved c = bars_part (λ (call : CallSite) (row : ℕ). Contains call.result row) c.args.system.now.calls c.loop-i.i c.call_at.result.now c.args.inflows.now c.loop-i.inflows c.bar.new.inflows
    (slice_get_within c.args.system.now.calls c.loop-i.i c.call_at.result.now c.call_at.ensures.value)
    (get_or_from_slice_get c.args.system.now.calls c.loop-i.i c.call_at.result.now c.call_at.result.now c.call_at.ensures.value)
    c.loop-i.invariant (subst (λ (rows : List ℕ). Bars (λ row. Contains rows row) c.loop-i.inflows c.bar.new.inflows) c.as_slice.ensures c.bar.ensures)
