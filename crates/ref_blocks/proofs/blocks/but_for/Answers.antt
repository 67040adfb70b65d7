-- One block more.
use Rattle.ref_blocks.proofs.Entered.{listed_step}
use Rattle.ref_blocks.proofs.blocks.but_for.Goals as goal

pub loop-block-preserved : goal.loop-block-preserved
loop-block-preserved c = listed_step c.args.blocks.now c.args.others.now c.loop-block.block-index _ c.loop-block.rest.items _ c.loop-block-test.true c.loop-block.invariant c.in_ok-push_unless.ensures
