use Rattle.std.proofs.Common.{take}
use Rattle.row_share.specs.share_laws.Classes.{IsInResult}
use Rattle.row_share.specs.row_classes.Flowing.{Bars}
use Rattle.row_share.proofs.row_classes.inflow.bar_results.Given as goal

abbrev pub invariant-loop-i : goal.invariant-loop-i
invariant-loop-i l = Bars (IsInResult (take l.i l.system.calls)) l.fn.inflows l.inflows
