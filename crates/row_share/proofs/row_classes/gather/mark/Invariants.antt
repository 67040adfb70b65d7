use Rattle.row_share.proofs.share_laws.Marking.{Marks}
use Rattle.row_share.proofs.row_classes.gather.mark.Given as goal

abbrev pub invariant-loop-source : goal.invariant-loop-source
invariant-loop-source l = Marks l.system l.class l.row l.sources l.initial.classes l.classes l.initial.waiting.items l.waiting.items l.source-index
