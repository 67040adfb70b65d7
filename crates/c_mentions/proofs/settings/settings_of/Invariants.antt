use Rattle.std.proofs.Common.{◌≡◌, ◌≤◌, length}
use Rattle.c_mentions.specs.Syntax.{nodes_of}
use Rattle.c_mentions.proofs.Handing.{Behind}
use Rattle.c_mentions.proofs.settings.settings_of.Given as goal

abbrev pub invariant-loop-node : goal.invariant-loop-node
invariant-loop-node l = (l.node ≤ length l.nodes) × (length l.list ≡ length l.nodes) × Behind l.tokens (nodes_of l.nodes) l.scopes.items l.list l.node

abbrev pub decreases-loop-node : goal.decreases-loop-node
decreases-loop-node l = l.node
