use Rattle.std.proofs.Common.{ℕ, List, Contains, take}
use Rattle.row_share.specs.row_classes.Flowing.{Bars}
use Rattle.row_share.proofs.row_classes.inflow.bar_lists.Given as goal

abbrev pub invariant-loop-rows : goal.invariant-loop-rows
invariant-loop-rows l = Bars (λ row. (rows : List ℕ) × Contains (take l.rows-index l.lists) rows × Contains rows row) l.fn.inflows l.inflows
