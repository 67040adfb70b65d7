use Rattle.std.proofs.Common.{◌≡◌, ℕ, List, length}
use Rattle.tree_reads.specs.Sources.{source_in}
use Rattle.tree_reads.specs.node_roles.Roles.{AreRoles}
use Rattle.unit_keys.specs.given_keys.Declares.{Declares}
use Rattle.unit_keys.specs.given_keys.Flags.{FlagsBelow}
use Rattle.unit_keys.proofs.given_keys.flags.tag_flags.Given as goal

abbrev pub invariant-loop-node : goal.invariant-loop-node
invariant-loop-node l = record {
  long : length l.flags.items ≡ length l.syntax.tree.now.nodes.items;
  marked : (uses : List (ℕ × ℕ)) → AreRoles (source_in l.syntax uses) l.roles → Declares (source_in l.syntax uses) l.declaring → FlagsBelow (source_in l.syntax uses) l.node l.flags.items;
}
