use Rattle.std.proofs.Common.{arith, sym}
use Rattle.c_consts.proofs.Spine.{leads_below, leads_step, leads_on}
use Rattle.c_consts.proofs.steps.descend.Goals as goal

pub first_operand-requires-clause-node : goal.first_operand-requires-clause-node
first_operand-requires-clause-node c =
    let below = leads_below c.args.types.now c.args.nodes.now c.requires.order c.loop-step._step c.args.node c.loop-step.at c.loop-step.invariant in
    omega arith

pub returns-in-None : goal.returns-in-None
returns-in-None c =
    let (j, leads) = c.requires.leads in
    absurd (leads_on c.args.types.now c.args.nodes.now c.loop-step._step c.args.depth c.args.node c.loop-step.at j c.loop-step-test.true c.loop-step.invariant leads (sym c.in-None.ensures))

pub loop-step-preserved : goal.loop-step-preserved
loop-step-preserved c =
    leads_step c.args.types.now c.args.nodes.now c.loop-step._step c.args.node c.loop-step.at c.in-Some.next c.loop-step.invariant (sym c.in-Some.ensures)
