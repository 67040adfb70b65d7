use Rattle.sol_model.specs.Families.{members}
use Rattle.sol_model.specs.Rules.{EffectEdge}
use Rattle.edge_book.specs.Edges.{Gains}
use Rattle.new_members.proofs.Through.{Through}
use Rattle.new_members.proofs.effects.enter_edges.Given as goal

abbrev pub invariant-loop-i : goal.invariant-loop-i
invariant-loop-i l = Gains l.initial.pairs.items l.pairs.items (Through l.function.effects (EffectEdge l.system (members l.rows) l.call l.number) l.i)
