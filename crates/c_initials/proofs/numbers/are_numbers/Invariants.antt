use Rattle.std.proofs.Common.{◌≡◌, ◌<◌, All, length}
use Rattle.c_consts.specs.Core.{nodes_of}
use Rattle.c_senses.specs.Initialised.{are_fixed_numbers}
use Rattle.core_nodes.specs.Standing.{cores_at}
use Rattle.c_initials.proofs.numbers.are_numbers.Given as goal

abbrev pub invariant-loop-node : goal.invariant-loop-node
invariant-loop-node l = record {
  within : All (λ i. i < length l.unit.nodes.items) l.stack.items;
  fixed : are_fixed_numbers (cores_at l.unit l.nodes) ≡ are_fixed_numbers (cores_at l.unit l.stack.items);
}

abbrev pub decreases-loop-node : goal.decreases-loop-node
decreases-loop-node l = nodes_of (cores_at l.unit l.stack.items)
