use Rattle.std.proofs.Common.{◌≡◌, ◌<◌, ℕ, List, length, get_or}
use Rattle.tree_reads.specs.Sources.{source_in}
use Rattle.tree_reads.specs.declared.node_roles.roles.Role.TheVariants.{Other}
use Rattle.tree_reads.specs.node_roles.Roles.{role_at}
use Rattle.tree_reads.proofs.node_roles.roles.roles_of.Given as goal

abbrev pub invariant-loop-node : goal.invariant-loop-node
invariant-loop-node l = record {
  long : length l.roles.items ≡ l.node;
  known : (uses : List (ℕ × ℕ)) (i : ℕ) → i < l.node → get_or l.roles.items i Other ≡ role_at (source_in l.syntax uses) i;
}
