-- One link more, up to the statement.
use Rattle.std.proofs.Common.{◌∙◌}
use Rattle.ref_blocks.proofs.Waits.{wait_last, wait_more, waits_end}
use Rattle.ref_blocks.proofs.jumps.waits_to.Goals as goal

pub returns-then-link-a : goal.returns-then-link-a
returns-then-link-a c = c.of.ensures
    ∙ wait_last c.args.nodes.now c.args.a c.args.links.now c.loop-link.link-index _ c.loop-link.on.items _ _ c.loop-link-test.true c.if-link-a.true c.loop-link.invariant c.in_ok-push_wait.ensures

pub loop-link-preserved : goal.loop-link-preserved
loop-link-preserved c =
    wait_more c.args.nodes.now c.args.a c.args.links.now c.loop-link.link-index _ c.loop-link.on.items _ _ c.loop-link-test.true c.if-link-a.false c.loop-link.invariant c.in_ok-push_wait.ensures

pub returns : goal.returns
returns c = c.of-2.ensures ∙ waits_end c.args.nodes.now c.args.a c.args.links.now c.loop-link.link-index c.loop-link.on.items _ c.loop-link-test.false c.loop-link.invariant
