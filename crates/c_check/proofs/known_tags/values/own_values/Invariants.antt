use Rattle.std.proofs.Common.{◌≡◌, ℕ, List}
use Rattle.core_tree.specs.declared.node.Unit.{Unit}
use Rattle.c_results.specs.Standing.{senses_made}
use Rattle.c_senses.specs.Sense.{sense_in}
use Rattle.tree_reads.specs.Sources.{source_read}
use Rattle.c_check.specs.declared.known_tags.known.Meaning.{Meaning}
use Rattle.c_check.specs.known_tags.Given.{AreGiven}
use Rattle.c_check.specs.known_tags.Own.{AreUnder}
use Rattle.c_check.specs.known_tags.Values.{own_values}
use Rattle.c_check.proofs.known_tags.values.own_values.Given as goal

-- the enumerators among so many nodes
abbrev pub invariant-loop-node : goal.invariant-loop-node
invariant-loop-node l =
    (u : Unit) (list : List (ℕ × Meaning)) → AreGiven l.given list → AreUnder (source_read l.syntax) l.top l.flags → l.pairs.items ≡ own_values (source_read l.syntax) (sense_in (senses_made u l.results)) l.top list l.node
