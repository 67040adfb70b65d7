use Rattle.std.proofs.Common.{◌∙◌, sym}
use Rattle.c_structures.proofs.Ascending.{ascends_step, ascends_not, ascends_end}
use Rattle.c_structures.proofs.before.is_ascending.Goals as goal

pub returns-then-nodes-i : goal.returns-then-nodes-i
returns-then-nodes-i c = sym (ascends_not c.args.nodes.now c.loop-i.i c.loop-i.auto.i c.loop-i-test.true c.if-nodes-i.true) ∙ c.loop-i.invariant

pub loop-i-preserved : goal.loop-i-preserved
loop-i-preserved c = sym (ascends_step c.args.nodes.now c.loop-i.i c.loop-i.auto.i c.loop-i-test.true c.if-nodes-i.false) ∙ c.loop-i.invariant

pub returns : goal.returns
returns c = sym (ascends_end c.args.nodes.now c.loop-i.i c.loop-i.auto.i c.loop-i-test.false) ∙ c.loop-i.invariant
