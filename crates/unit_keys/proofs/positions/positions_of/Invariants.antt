use Rattle.std.proofs.Common.{ℕ, List}
use Rattle.core_tree.specs.declared.node.Unit.{Unit}
use Rattle.c_senses.specs.Sense.{sense_in}
use Rattle.c_results.specs.Standing.{senses_made}
use Rattle.tree_reads.specs.Sources.{source_in}
use Rattle.tree_reads.specs.node_roles.Roles.{AreRoles}
use Rattle.unit_keys.specs.Placed.{AreNoted}
use Rattle.unit_keys.proofs.positions.positions_of.Given as goal

abbrev pub invariant-loop-node : goal.invariant-loop-node
invariant-loop-node l = (u : Unit) (uses : List (ℕ × ℕ)) → AreRoles (source_in l.syntax uses) l.roles → AreNoted (source_in l.syntax uses) (sense_in (senses_made u l.results)) l.positions l.node
