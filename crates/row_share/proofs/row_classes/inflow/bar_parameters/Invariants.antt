use Rattle.std.proofs.Common.{ℕ, List, Contains, take}
use Rattle.sol_model.specs.declared.system.Function.{Function}
use Rattle.row_share.specs.row_classes.Flowing.{Bars}
use Rattle.row_share.proofs.row_classes.inflow.bar_parameters.Given as goal

abbrev pub invariant-loop-i : goal.invariant-loop-i
invariant-loop-i l = Bars (λ row. (function : Function) × Contains (take l.i l.system.functions) function × ((rows : List ℕ) × Contains function.parameters rows × Contains rows row)) l.fn.inflows l.inflows
