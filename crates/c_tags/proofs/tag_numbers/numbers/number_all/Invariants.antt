use Rattle.std.proofs.Common.{ℕ, ◌≤◌, ◌-◌, List}
use Rattle.tree_reads.specs.Sources.{source_in}
use Rattle.tree_reads.specs.node_roles.Roles.{AreRoles}
use Rattle.c_tags.specs.tag_numbers.Firsts.{Declares}
use Rattle.c_tags.specs.tag_numbers.Numbers.{AreNumbers}
use Rattle.c_tags.proofs.tag_numbers.numbers.number_all.Given as goal

abbrev pub invariant-loop-node : goal.invariant-loop-node
invariant-loop-node l = record {
  within : l.node ≤ l.count;
  numbered : (uses : List (ℕ × ℕ)) → AreRoles (source_in l.syntax uses) l.roles → Declares (source_in l.syntax uses) l.declaring → AreNumbers (source_in l.syntax uses) l.numbering l.node;
}

abbrev pub decreases-loop-node : goal.decreases-loop-node
decreases-loop-node l = l.count - l.node
