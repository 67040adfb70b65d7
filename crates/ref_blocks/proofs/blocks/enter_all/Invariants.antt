-- The blocks that are left to enter.
use Rattle.std.proofs.Common.{◌≡◌, ◌≤◌, length, take, reverse}
use Rattle.core_tree.specs.Seen.{core_of}
use Rattle.ref_blocks.specs.Blocks.{all_entered}
use Rattle.ref_blocks.specs.Plans.{EndsKnown, blocks_by}
use Rattle.ref_blocks.proofs.blocks.enter_all.Given as goal

abbrev pub invariant-loop-i : goal.invariant-loop-i
invariant-loop-i l = record {
  within : l.i ≤ length l.blocks;
  known : EndsKnown l.memory l.doors;
  rest : all_entered (core_of l.trees) (reverse (take l.i l.blocks)) (blocks_by l.memory l.doors)
      ≡ all_entered (core_of l.trees) (reverse l.blocks) (blocks_by l.memory l.fn.doors);
}

abbrev pub decreases-loop-i : goal.decreases-loop-i
decreases-loop-i l = l.i
