use Rattle.new_members.specs.News.{BackEdge}
use Rattle.edge_book.specs.Edges.{Gains}
use Rattle.new_members.proofs.Through.{Through}
use Rattle.new_members.proofs.pairs.put_backs.Given as goal

abbrev pub invariant-loop-location : goal.invariant-loop-location
invariant-loop-location l = Gains l.initial.pairs.items l.pairs.items (Through l.locations (BackEdge l.system l.call l.passed) l.location-index)
