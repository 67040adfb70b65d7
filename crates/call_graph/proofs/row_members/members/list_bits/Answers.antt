use Rattle.std.proofs.Common.{◌≡◌, ℕ, ◌+◌, ◌<◌, ◌^◌, arith, ◌∙◌, ap}
use Rattle.std.specs.Int.{trailing_zeros, w64}
use Rattle.call_graph.proofs.row_members.Bits.{IsNext, next_bit, bits_more, left_more, bits_all, left_fits}
use Rattle.call_graph.proofs.row_members.members.list_bits.Goals as goal

pub overflow_add-base : goal.overflow_add-base
overflow_add-base c =
    let gap : ℕ = trailing_zeros w64 c.loop-left.left in
    let n : IsNext c.args.word c.loop-left.next gap = next_bit c.args.word c.loop-left.next c.loop-left.left gap c.ranges.word.fits (left_fits _ _ _ c.ranges.word.fits c.loop-left.invariant.left) (let some = c.loop-left-test.true in omega arith) Rattle.std.proofs.Common.refl c.loop-left.invariant.left in
    let within : c.loop-left.next + gap < 64 = n.within in
    let room = c.requires in
    omega arith

pub loop-left-preserved : goal.loop-left-preserved
loop-left-preserved c =
    let gap : ℕ = trailing_zeros w64 c.loop-left.left in
    let n : IsNext c.args.word c.loop-left.next gap = next_bit c.args.word c.loop-left.next c.loop-left.left gap c.ranges.word.fits (left_fits _ _ _ c.ranges.word.fits c.loop-left.invariant.left) (let some = c.loop-left-test.true in omega arith) Rattle.std.proofs.Common.refl c.loop-left.invariant.left in
    record {
      within = let w : c.loop-left.next + gap < 64 = n.within in omega arith;
      left = left_more c.args.word c.loop-left.next gap c.loop-left.left _ c.loop-left.invariant.left Rattle.std.proofs.Common.refl;
      listed = bits_more c.args.word c.args.base c.loop-left.next gap c.args.list.now.items c.loop-left.list.items _ n c.loop-left.invariant.listed c.in_ok-push.ensures.items;
    }

pub returns : goal.returns
returns c = bits_all c.args.word c.args.base c.loop-left.next c.loop-left.left c.args.list.now.items c.loop-left.list.items c.loop-left.invariant.within c.loop-left-test.false c.loop-left.invariant.left c.loop-left.invariant.listed
