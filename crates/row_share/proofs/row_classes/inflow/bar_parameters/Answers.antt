use Rattle.std.proofs.Common.{ℕ, List, Contains, take, sym, subst, arith}
use Rattle.std.proofs.lemmas.List.{take_all}
use Rattle.std.proofs.lemmas.Option.{get_or_from_slice_get, slice_get_within}
use Rattle.sol_model.specs.declared.system.Function.{Function}
use Rattle.row_share.specs.share_laws.Classes.{IsInParameter}
use Rattle.row_share.specs.row_classes.Flowing.{Bars}
use Rattle.row_share.proofs.row_classes.Flows.{bars_part, bars_same}
use Rattle.row_share.proofs.row_classes.inflow.bar_parameters.Goals as goal

pub loop-i-preserved : goal.loop-i-preserved
loop-i-preserved c = bars_part (λ (function : Function) (row : ℕ). (rows : List ℕ) × Contains function.parameters rows × Contains rows row) c.args.system.now.functions c.loop-i.i c.function_at.result.now c.args.inflows.now c.loop-i.inflows c.bar_lists.new.inflows
    (slice_get_within c.args.system.now.functions c.loop-i.i c.function_at.result.now c.function_at.ensures.value)
    (get_or_from_slice_get c.args.system.now.functions c.loop-i.i c.function_at.result.now c.function_at.result.now c.function_at.ensures.value)
    c.loop-i.invariant (subst (λ (lists : List (List ℕ)). Bars (λ row. (rows : List ℕ) × Contains lists rows × Contains rows row) c.loop-i.inflows c.bar_lists.new.inflows) c.as_slice.ensures c.bar_lists.ensures)

pub returns : goal.returns
returns c =
    let functions = c.args.system.now.functions in
    let all = take_all c.loop-i.i functions (omega arith) in
    bars_same (λ row. (function : Function) × Contains (take c.loop-i.i functions) function × ((rows : List ℕ) × Contains function.parameters rows × Contains rows row)) (IsInParameter functions) c.args.inflows.now c.loop-i.inflows
    (λ row h. (h.0, h.2.0, subst (λ (fs : List Function). Contains fs h.0) all h.1, h.2.1, h.2.2))
    (λ row h. (h.0, subst (λ (fs : List Function). Contains fs h.0) (sym all) h.2, (h.1, h.3, h.4)))
    c.loop-i.invariant
