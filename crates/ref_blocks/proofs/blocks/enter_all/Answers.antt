-- One block more is entered.
use Rattle.std.proofs.Common.{arith, ◌≡◌, ℕ, ◌-◌, List, length, take, reverse, ap, sym, ◌∙◌}
use Rattle.std.proofs.lemmas.List.{take_all}
use Rattle.core_tree.specs.Seen.{core_of}
use Rattle.ref_blocks.specs.declared.block.Block.{Block}
use Rattle.ref_blocks.specs.Blocks.{all_entered}
use Rattle.ref_blocks.specs.Plans.{blocks_by}
use Rattle.ref_blocks.proofs.Entered.{entered_step}
use Rattle.ref_blocks.proofs.blocks.enter_all.Goals as goal

pub loop-i-init : goal.loop-i-init
loop-i-init c = record {
  within = omega arith;
  known = c.requires.ended;
  rest = ap (λ (w : List Block). all_entered (core_of c.args.trees.now) (reverse w) (blocks_by c.args.memory.now c.args.doors.now)) (take_all (length c.args.blocks.now) c.args.blocks.now (omega arith));
}

pub loop-i-preserved : goal.loop-i-preserved
loop-i-preserved c =
    let u = core_of c.args.trees.now in
    record {
      within = omega arith;
      known = c.in_ok-enter.ensures.ended;
      rest = ap (all_entered u (reverse (take (c.loop-i.i - 1) c.args.blocks.now))) c.in_ok-enter.ensures.blocks
          ∙ sym (entered_step u c.args.blocks.now c.loop-i.i (c.loop-i.i - 1) _ (blocks_by c.args.memory.now c.loop-i.doors) (omega arith) c.loop-i.invariant.within)
          ∙ c.loop-i.invariant.rest;
    }

pub returns : goal.returns
returns c =
    let u = core_of c.args.trees.now in
    let z : c.loop-i.i ≡ 0 = omega arith in
    let e = ap (λ (n : ℕ). all_entered u (reverse (take n c.args.blocks.now)) (blocks_by c.args.memory.now c.loop-i.doors)) z in
    record { ended = c.loop-i.invariant.known; blocks = sym e ∙ c.loop-i.invariant.rest }
