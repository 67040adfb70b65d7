use Rattle.sol_model.specs.Families.{members}
use Rattle.new_members.specs.News.{NewEdge}
use Rattle.edge_book.specs.Edges.{Gains}
use Rattle.new_members.proofs.Through.{Through}
use Rattle.new_members.proofs.effects.renew_edges.Given as goal

abbrev pub invariant-loop-i : goal.invariant-loop-i
invariant-loop-i l = Gains l.initial.pairs.items l.pairs.items (Through l.function.effects (NewEdge l.system (members l.rows) l.call l.number l.news.row l.news.new.now) l.i)
