use Rattle.std.proofs.Common.{◌≤◌, ℕ, List, length}
use Rattle.core_tree.specs.declared.node.Unit.{Unit}
use Rattle.c_senses.specs.Sense.{sense_in}
use Rattle.c_results.specs.Standing.{senses_made}
use Rattle.tree_reads.specs.Sources.{source_in}
use Rattle.unit_keys.specs.given_keys.Kept.{AreKeys}
use Rattle.unit_keys.specs.given_keys.Keyed.{IsKnown}
use Rattle.unit_keys.proofs.given_keys.placed.keys_of_specifiers.Given as goal

abbrev pub invariant-loop-left : goal.invariant-loop-left
invariant-loop-left l = record {
  few : l.left ≤ length l.syntax.tree.now.nodes.items;
  keys : (u : Unit) (uses : List (ℕ × ℕ)) → IsKnown (source_in l.syntax uses) (sense_in (senses_made u l.results)) l.known →
      AreKeys (source_in l.syntax uses) (sense_in (senses_made u l.results)) l.list l.left;
}

abbrev pub decreases-loop-left : goal.decreases-loop-left
decreases-loop-left l = l.left
