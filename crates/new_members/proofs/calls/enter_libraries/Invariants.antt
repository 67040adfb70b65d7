use Rattle.sol_model.specs.Families.{members}
use Rattle.edge_book.specs.Edges.{Gains}
use Rattle.new_members.specs.News.{LibraryEdge, LibraryFact}
use Rattle.new_members.proofs.Through.{Through}
use Rattle.new_members.proofs.calls.enter_libraries.Given as goal

abbrev pub invariant-loop-location : goal.invariant-loop-location
invariant-loop-location l = record {
  pairs : Gains l.initial.pairs.items l.pairs.items (Through l.new (LibraryEdge l.system (members l.rows) l.call) l.location-index);
  facts : Gains l.initial.facts.items l.facts.items (Through l.new (LibraryFact l.system l.call) l.location-index);
}
