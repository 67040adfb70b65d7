use Rattle.std.proofs.Common.{Contains, take}
use Rattle.row_share.specs.row_classes.Flowing.{Bars}
use Rattle.row_share.proofs.row_classes.inflow.bar.Given as goal

abbrev pub invariant-loop-row : goal.invariant-loop-row
invariant-loop-row l = Bars (λ row. Contains (take l.row-index l.rows) row) l.fn.inflows l.inflows
