-- The topmost node is above the node above, too.
use Rattle.std.proofs.Common.{sym, ◌∙◌}
use Rattle.ref_blocks.proofs.Above.{root_step, root_end}
use Rattle.ref_blocks.proofs.parents.root_at.Goals as goal

pub loop-p-preserved : goal.loop-p-preserved
loop-p-preserved c = root_step c.args.nodes.now c.loop-p.at c.in-Some.p (sym c.parent_at.ensures.value ∙ c.in-Some.is) ∙ c.loop-p.invariant

pub returns : goal.returns
returns c = root_end c.args.nodes.now c.loop-p.at (sym c.parent_at.ensures.value ∙ c.in_default.is) ∙ c.loop-p.invariant
