-- The parts of the change are the parts of the definition.
use Rattle.std.proofs.Common.{List, ◌∷◌, reverse, ap, ◌∙◌}
use Rattle.core_tree.specs.Seen.{core_of}
use Rattle.ref_state.specs.declared.items.Item.TheVariants.{Do}
use Rattle.ref_blocks.specs.declared.block.Block.{Block}
use Rattle.ref_blocks.specs.declared.ways.Link.{Link}
use Rattle.ref_blocks.specs.Around.{blocks_in, blocks_around, but_for}
use Rattle.ref_blocks.specs.Blocks.{all_left, all_entered}
use Rattle.ref_blocks.specs.Jumps.{waits_to}
use Rattle.ref_blocks.specs.Plans.{blocks_by}
use Rattle.ref_blocks.proofs.Entered.{jumped}
use Rattle.ref_blocks.proofs.jumps.jump.Goals as goal

pub returns : goal.returns
returns c =
    let u = core_of c.args.trees.now in
    let inside = c.args.target.inside.now in
    let s = blocks_by c.args.memory.now c.args.doors in
    let m = blocks_by c.args.memory.now c.leave_others.new.doors in
    record {
      off = c.items_to-off.ensures;
      on = c.in_ok-on.ensures ∙ ap (λ (w : List Link). Do c.args.target.node ∷ waits_to u.nodes c.args.target.over w) (c.as_slice-4.ensures.value ∙ c.in_ok-links.ensures.value);
      blocks = jumped u inside c.in_ok-around.around.items (blocks_around u c.args.target.node) s m _
          (c.in_ok-around.ensures ∙ ap (blocks_in u.nodes) (c.as_slice.ensures.value ∙ c.in_ok-links.ensures.value))
          (c.in_ok-leave_others.ensures.blocks ∙ ap (λ (w : List Block). all_left u (but_for inside w) s) c.as_slice-2.ensures.value)
          (c.in_ok-enter_others.ensures.blocks ∙ ap (λ (w : List Block). all_entered u (reverse (but_for w inside)) m) c.as_slice-3.ensures.value);
      ended = c.in_ok-enter_others.ensures.ended;
    }
