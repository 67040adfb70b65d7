-- One instance more.
use Rattle.std.proofs.Common.{ℕ, ◌++◌, Bool, slice_get}
use Rattle.ref_blocks.specs.Blocks.{is_of}
use Rattle.ref_blocks.proofs.Entered.{stay_step, end_step}
use Rattle.ref_blocks.proofs.blocks.parted.Goals as goal

pub loop-i-preserved : goal.loop-i-preserved
loop-i-preserved c =
    let test : ℕ → Bool = λ k. is_of c.args.objects.now (slice_get (c.args.memory.now ++ c.args.fresh.now) k) in
    record {
      own = stay_step test c.args.own.now c.loop-i.i-index _ c.loop-i.kept _ c.loop-i-test.true c.is_of-ends.ensures c.loop-i.invariant.own c.in_ok-part_one.ensures.kept;
      ended = end_step test c.args.own.now c.loop-i.i-index _ c.args.ended.now c.loop-i.ended _ c.loop-i-test.true c.is_of-ends.ensures c.loop-i.invariant.ended c.in_ok-part_one.ensures.ended;
    }
