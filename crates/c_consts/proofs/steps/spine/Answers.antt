use Rattle.std.proofs.Common.{arith, sym}
use Rattle.c_consts.proofs.Spine.{first_less, leads_step}
use Rattle.c_consts.proofs.steps.spine.Goals as goal

pub overflow_add-depth : goal.overflow_add-depth
overflow_add-depth c =
    let less = first_less c.args.types.now c.args.nodes.now c.requires.order c.loop-next.at c.in-Some.next (sym c.in-Some.ensures) in
    omega (arith, c.loop-next.invariant.range, c.ranges.node)

pub loop-next-smaller : goal.loop-next-smaller
loop-next-smaller c = first_less c.args.types.now c.args.nodes.now c.requires.order c.loop-next.at c.in-Some.next (sym c.in-Some.ensures)

pub loop-next-preserved : goal.loop-next-preserved
loop-next-preserved c =
    let less = first_less c.args.types.now c.args.nodes.now c.requires.order c.loop-next.at c.in-Some.next (sym c.in-Some.ensures) in
    record {
      leads = leads_step c.args.types.now c.args.nodes.now c.loop-next.depth c.args.node c.loop-next.at c.in-Some.next c.loop-next.invariant.leads (sym c.in-Some.ensures);
      range = omega (arith, c.loop-next.invariant.range);
    }
