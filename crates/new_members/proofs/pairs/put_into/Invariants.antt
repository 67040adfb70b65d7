use Rattle.sol_model.specs.Rules.{PairEdge}
use Rattle.edge_book.specs.Edges.{Gains}
use Rattle.new_members.proofs.Through.{Through}
use Rattle.new_members.proofs.pairs.put_into.Given as goal

abbrev pub invariant-loop-from : goal.invariant-loop-from
invariant-loop-from l = Gains l.initial.pairs.items l.pairs.items (Through l.froms (PairEdge l.system l.to) l.from-index)
