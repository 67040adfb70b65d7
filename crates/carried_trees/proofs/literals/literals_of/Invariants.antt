use Rattle.std.proofs.Common.{◌≡◌, ◌+◌}
use Rattle.carried_trees.specs.Numbered.{AreNumbered}
use Rattle.carried_trees.proofs.literals.literals_of.Given as goal

abbrev pub invariant-loop-node : goal.invariant-loop-node
invariant-loop-node l = record {
  at : l.at ≡ l.from + l.node-index;
  numbered : AreNumbered l.nodes l.from l.first l.node-index l.own;
}
