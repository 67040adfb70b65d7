use Rattle.std.proofs.Common.{◌+◌, ◌*◌, length}
use Rattle.row_share.specs.share_laws.Gathered.{IsUnderWay, unclassed}
use Rattle.row_share.proofs.row_classes.gather.gather.Given as goal

abbrev pub invariant-loop-row : goal.invariant-loop-row
invariant-loop-row l = IsUnderWay l.system l.order l.last l.class l.fn.classes l.classes l.waiting.items

abbrev pub decreases-loop-row : goal.decreases-loop-row
decreases-loop-row l = 2 * unclassed l.classes + length l.waiting.items
