use Rattle.std.proofs.Common.{arith, refl, ◌∙◌, append_assoc}
use Rattle.normal_form.proofs.EachLemmas.{each_more}
use Rattle.normal_form.proofs.each.push_each.Goals as goal

pub loop-node-preserved : goal.loop-node-preserved
loop-node-preserved c =
    let e = each_more c.args.each c.args.kept.now c.loop-node.node-index 0 c.loop-node-test.true in
    (omega (arith, c.loop-node.invariant.0), rw (e, ← c.loop-node.invariant.0, ← append_assoc) (c.in_ok-push.ensures.ok ∙ rw (c.loop-node.invariant.1, c.made.ensures, c.loop-node.invariant.0) refl))
