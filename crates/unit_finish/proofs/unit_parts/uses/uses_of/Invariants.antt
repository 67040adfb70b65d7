use Rattle.std.proofs.Common.{◌≡◌, ◌<◌, ℕ, None, length, get_or, drop}
use Rattle.unit_finish.specs.unit_parts.Uses.{least_use}
use Rattle.unit_finish.proofs.unit_parts.uses.uses_of.Given as goal

-- the least uses so far, and those among the nodes that are left
abbrev pub invariant-loop-node : goal.invariant-loop-node
invariant-loop-node l = record {
  long : length l.uses.items ≡ l.count;
  least : (e : ℕ) → e < l.count → least_use (get_or l.uses.items e None) e (drop l.node-index l.nodes) ≡ least_use None e l.nodes;
}
