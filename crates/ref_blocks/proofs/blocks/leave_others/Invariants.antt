-- The blocks that are left to leave.
use Rattle.std.proofs.Common.{◌≡◌, drop}
use Rattle.core_tree.specs.Seen.{core_of}
use Rattle.ref_blocks.specs.Around.{but_for}
use Rattle.ref_blocks.specs.Blocks.{all_left}
use Rattle.ref_blocks.specs.Plans.{EndsKnown, blocks_by}
use Rattle.ref_blocks.proofs.blocks.leave_others.Given as goal

abbrev pub invariant-loop-block : goal.invariant-loop-block
invariant-loop-block l = record {
  known : EndsKnown l.memory l.doors;
  rest : all_left (core_of l.trees) (but_for (drop l.block-index l.blocks) l.others) (blocks_by l.memory l.doors)
      ≡ all_left (core_of l.trees) (but_for l.blocks l.others) (blocks_by l.memory l.fn.doors);
}
