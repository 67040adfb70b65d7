use Rattle.std.proofs.Common.{length}
use Rattle.round_pieces.proofs.delta_prop.Carries.{Listed}
use Rattle.round_pieces.proofs.delta_prop.along.list_news.Given as goal

abbrev pub invariant-loop-k : goal.invariant-loop-k
invariant-loop-k l = Listed (length l.now) l.first l.k l.done l.now l.news.items
