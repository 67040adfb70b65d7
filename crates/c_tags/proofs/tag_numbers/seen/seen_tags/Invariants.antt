use Rattle.std.proofs.Common.{◌≡◌, ◌≤◌, ◌-◌, ℕ, List, length}
use Rattle.tree_reads.specs.Sources.{source_in}
use Rattle.tree_reads.specs.node_roles.Roles.{AreRoles}
use Rattle.c_tags.specs.tag_numbers.Firsts.{Declares}
use Rattle.c_tags.specs.tag_numbers.Numbers.{AreSeen, ListedBefore}
use Rattle.c_tags.proofs.tag_numbers.seen.seen_tags.Given as goal

abbrev pub invariant-loop-node : goal.invariant-loop-node
invariant-loop-node l = record {
  within : l.node ≤ l.end;
  long : length l.listed.items ≡ length l.syntax.tree.now.nodes.items;
  listed_are : (uses : List (ℕ × ℕ)) → AreRoles (source_in l.syntax uses) l.roles → Declares (source_in l.syntax uses) l.declaring → ListedBefore (source_in l.syntax uses) l.node l.listed.items;
  seen_are : (uses : List (ℕ × ℕ)) → AreRoles (source_in l.syntax uses) l.roles → Declares (source_in l.syntax uses) l.declaring → AreSeen (source_in l.syntax uses) l.seen l.node;
}

abbrev pub decreases-loop-node : goal.decreases-loop-node
decreases-loop-node l = l.end - l.node
