use Rattle.std.proofs.Common.{◌≡◌, ◌≤◌, None, length, drop, ◌&&◌}
use Rattle.std.specs.Prelude.{nat_lt}
use Rattle.c_grammar.specs.Productions.{p_enumerator}
use Rattle.c_senses.specs.Tree.{last_where, is_a}
use Rattle.tree_reads.specs.Sources.{source_read}
use Rattle.c_tags.proofs.enumerations.last_before.Given as goal

abbrev pub invariant-loop-left : goal.invariant-loop-left
invariant-loop-left l = record {
  inside : l.left ≤ length l.list;
  none : last_where (λ c. is_a (source_read l.syntax) p_enumerator c && nat_lt c l.at) (drop l.left l.list) ≡ None;
}

abbrev pub decreases-loop-left : goal.decreases-loop-left
decreases-loop-left l = l.left
