use Rattle.std.proofs.Common.{ℕ, ◌≤◌, ◌-◌, List}
use Rattle.tree_reads.specs.Sources.{source_in}
use Rattle.tree_reads.specs.node_roles.Roles.{AreRoles}
use Rattle.c_tags.specs.tag_numbers.Firsts.{Declares}
use Rattle.c_tags.specs.tag_numbers.Numbers.{MarkedBefore}
use Rattle.c_tags.proofs.tag_numbers.seen.completed_tags.Given as goal

abbrev pub invariant-loop-node : goal.invariant-loop-node
invariant-loop-node l = record {
  within : l.node ≤ l.end;
  marked : (uses : List (ℕ × ℕ)) → AreRoles (source_in l.syntax uses) l.roles → Declares (source_in l.syntax uses) l.declaring → MarkedBefore (source_in l.syntax uses) l.node l.flags.items;
}

abbrev pub decreases-loop-node : goal.decreases-loop-node
decreases-loop-node l = l.end - l.node
