use Rattle.std.proofs.Common.{◌≡◌, ◌≤◌, ℕ, length}
use Rattle.tree_reads.specs.Sources.{source_read}
use Rattle.c_check.specs.known_tags.Own.{flag_at, is_under}
use Rattle.c_check.proofs.known_tags.under.nodes_under.Given as goal

-- the flags from a node on are right
abbrev pub invariant-loop-left : goal.invariant-loop-left
invariant-loop-left l = record {
  long : length l.flags.items ≡ l.top;
  at_most : l.left ≤ l.top;
  each : (i : ℕ) → l.left ≤ i → flag_at l.flags.items i ≡ is_under (source_read l.syntax) l.top i;
}

abbrev pub decreases-loop-left : goal.decreases-loop-left
decreases-loop-left l = l.left
