use Rattle.new_members.specs.News.{NewLibraryEdge}
use Rattle.sol_model.specs.Families.{members}
use Rattle.edge_book.specs.Edges.{Gains}
use Rattle.new_members.proofs.Through.{Through}
use Rattle.new_members.proofs.calls.renew_libraries.Given as goal

abbrev pub invariant-loop-location : goal.invariant-loop-location
invariant-loop-location l = Gains l.initial.pairs.items l.pairs.items (Through l.locations (NewLibraryEdge l.system (members l.rows) l.call l.news.row l.news.new.now) l.location-index)
