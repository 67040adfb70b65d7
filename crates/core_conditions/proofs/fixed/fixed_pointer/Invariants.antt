use Rattle.std.proofs.Common.{◌↔◌, ◌≤◌, length}
use Rattle.core_tree.specs.Seen.{core_of}
use Rattle.core_tree.specs.Valid.{FixedPointer}
use Rattle.core_conditions.specs.Fixed.{PartSays, part_rank}
use Rattle.core_conditions.proofs.fixed.fixed_pointer.Given as goal

abbrev pub decreases-down : goal.decreases-down
decreases-down l = part_rank l.part

abbrev pub invariant-down : goal.invariant-down
invariant-down l = record {
  within : part_rank l.part ≤ length l.trees.nodes.now;
  same : PartSays (core_of l.trees) l.part ↔ FixedPointer (core_of l.trees) l.fn.n;
}
