use Rattle.std.proofs.Common.{ℕ, List}
use Rattle.core_tree.specs.declared.node.Unit.{Unit}
use Rattle.c_senses.specs.Sense.{sense_in}
use Rattle.c_results.specs.Standing.{senses_made}
use Rattle.tree_reads.specs.Sources.{source_in}
use Rattle.tree_reads.specs.node_roles.Roles.{AreRoles}
use Rattle.unit_keys.specs.Words.{has_word}
use Rattle.unit_keys.specs.Free.{AreFree, TakenBelow}
use Rattle.unit_keys.proofs.free.free_names.Given as goal

abbrev pub invariant-loop-node : goal.invariant-loop-node
invariant-loop-node l = record {
  taken : (u : Unit) (uses : List (ℕ × ℕ)) → AreRoles (source_in l.syntax uses) l.roles → TakenBelow (source_in l.syntax uses) (sense_in (senses_made u l.results)) (has_word l.taken) l.node;
  free : (u : Unit) (uses : List (ℕ × ℕ)) → AreRoles (source_in l.syntax uses) l.roles → AreFree (source_in l.syntax uses) (sense_in (senses_made u l.results)) l.free l.node;
}
