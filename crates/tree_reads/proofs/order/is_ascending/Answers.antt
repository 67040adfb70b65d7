use Rattle.std.proofs.Common.{◌∙◌, sym}
use Rattle.tree_reads.proofs.Ascending.{ascends_step, ascends_not, ascends_end}
use Rattle.tree_reads.proofs.order.is_ascending.Goals as goal

pub returns-then-list-i : goal.returns-then-list-i
returns-then-list-i c = sym (ascends_not c.args.list.now c.loop-i.i c.loop-i.auto.i c.loop-i-test.true c.if-list-i.true) ∙ c.loop-i.invariant

pub loop-i-preserved : goal.loop-i-preserved
loop-i-preserved c = sym (ascends_step c.args.list.now c.loop-i.i c.loop-i.auto.i c.loop-i-test.true c.if-list-i.false) ∙ c.loop-i.invariant

pub returns : goal.returns
returns c = sym (ascends_end c.args.list.now c.loop-i.i c.loop-i.auto.i c.loop-i-test.false) ∙ c.loop-i.invariant
