use Rattle.std.proofs.Common.{take}
use Rattle.core_tree.specs.declared.node.Unit.{Unit}
use Rattle.c_senses.specs.Tree.{Source}
use Rattle.c_senses.specs.World.{World}
use Rattle.c_senses.specs.Sense.{sense_in}
use Rattle.c_results.specs.Standing.{senses_made}
use Rattle.c_structures.specs.Named.{SaysNames}
use Rattle.c_structures.specs.Before.{parts_below}
use Rattle.c_structures.proofs.earlier.names_below.Given as goal

-- the names of the members of the nodes so far
abbrev pub invariant-loop-node : goal.invariant-loop-node
invariant-loop-node l = (u : Unit) (w : World) (s : Source) → SaysNames l.names (parts_below w s (sense_in (senses_made u l.results)) (take l.node-index l.nodes) l.below)
