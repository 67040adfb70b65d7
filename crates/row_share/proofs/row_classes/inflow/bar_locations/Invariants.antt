use Rattle.std.proofs.Common.{◌<◌}
use Rattle.row_share.specs.row_classes.Flowing.{Bars}
use Rattle.row_share.proofs.row_classes.inflow.bar_locations.Given as goal

abbrev pub invariant-loop-location : goal.invariant-loop-location
invariant-loop-location l = Bars (λ row. row < l.location) l.fn.inflows l.inflows
