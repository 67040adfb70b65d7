use Rattle.std.proofs.Common.{◌≡◌, drop}
use Rattle.core_nodes.specs.passed.c_senses.Entities.{behind}
use Rattle.c_entities.proofs.initialisers.behind.Given as goal

-- what stands behind the node in the rest stands behind it in the list
abbrev pub invariant-loop-at : goal.invariant-loop-at
invariant-loop-at l = behind l.node (drop l.at l.list) ≡ behind l.node l.list
