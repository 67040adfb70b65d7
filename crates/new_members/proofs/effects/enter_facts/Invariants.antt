use Rattle.sol_model.specs.Rules.{EffectFact}
use Rattle.edge_book.specs.Edges.{Gains}
use Rattle.new_members.proofs.Through.{Through}
use Rattle.new_members.proofs.effects.enter_facts.Given as goal

abbrev pub invariant-loop-i : goal.invariant-loop-i
invariant-loop-i l = Gains l.initial.facts.items l.facts.items (Through l.function.effects (EffectFact l.call l.number) l.i)
