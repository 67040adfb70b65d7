-- One block more is left, or stays.
use Rattle.std.proofs.Common.{◌+◌, List, drop, refl, ap, sym, ◌∙◌}
use Rattle.std.proofs.lemmas.List.{drop_all}
use Rattle.core_tree.specs.Seen.{core_of}
use Rattle.ref_blocks.specs.declared.block.Block.{Block}
use Rattle.ref_blocks.specs.Around.{but_for}
use Rattle.ref_blocks.specs.Blocks.{all_left}
use Rattle.ref_blocks.specs.Plans.{blocks_by}
use Rattle.ref_blocks.proofs.Entered.{left_step}
use Rattle.ref_blocks.proofs.blocks.leave_others.Goals as goal

pub loop-block-init : goal.loop-block-init
loop-block-init c = record { known = c.requires.ended; rest = refl }

pub loop-block-preserved : goal.loop-block-preserved
loop-block-preserved c =
    let u = core_of c.args.trees.now in
    let i = c.loop-block.block-index in
    record {
      known = c.in_ok-leave_unless.ensures.ended;
      rest = ap (all_left u (but_for (drop (i + 1) c.args.blocks.now) c.args.others.now)) c.in_ok-leave_unless.ensures.blocks
          ∙ sym (left_step u c.args.blocks.now c.args.others.now i _ (blocks_by c.args.memory.now c.loop-block.doors) c.loop-block-test.true)
          ∙ c.loop-block.invariant.rest;
    }

pub returns : goal.returns
returns c =
    let u = core_of c.args.trees.now in
    let e = ap (λ (w : List Block). all_left u (but_for w c.args.others.now) (blocks_by c.args.memory.now c.loop-block.doors)) (drop_all c.loop-block.block-index c.args.blocks.now c.loop-block-test.false) in
    record { ended = c.loop-block.invariant.known; blocks = sym e ∙ c.loop-block.invariant.rest }
