-- The nearest one is the node above, or above it.
use Rattle.std.proofs.Common.{sym, ◌∙◌}
use Rattle.ref_blocks.specs.Ways.{is_sought}
use Rattle.ref_blocks.proofs.Above.{nearest_there, nearest_step, nearest_end}
use Rattle.ref_blocks.proofs.parents.nearest_at.Goals as goal

pub returns-then-is_sought_at : goal.returns-then-is_sought_at
returns-then-is_sought_at c = nearest_there c.args.nodes.now (is_sought c.args.sought) c.loop-p.at c.in-Some.p (sym c.parent_at.ensures.value ∙ c.in-Some.is) (sym c.is_sought_at.ensures ∙ c.if-is_sought_at.true) ∙ c.loop-p.invariant

pub loop-p-preserved : goal.loop-p-preserved
loop-p-preserved c = nearest_step c.args.nodes.now (is_sought c.args.sought) c.loop-p.at c.in-Some.p (sym c.parent_at.ensures.value ∙ c.in-Some.is) (sym c.is_sought_at.ensures ∙ c.if-is_sought_at.false) ∙ c.loop-p.invariant

pub returns : goal.returns
returns c = nearest_end c.args.nodes.now (is_sought c.args.sought) c.loop-p.at (sym c.parent_at.ensures.value ∙ c.in_default.is) ∙ c.loop-p.invariant
