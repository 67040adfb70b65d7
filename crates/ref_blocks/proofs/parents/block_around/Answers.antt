-- The block at a link, or one further up.
use Rattle.std.proofs.Common.{sym, ◌∙◌}
use Rattle.ref_blocks.proofs.Around.{part_there, own_there, none_there, none_around}
use Rattle.ref_blocks.proofs.parents.block_around.Goals as goal

pub returns-then-opens_part : goal.returns-then-opens_part
returns-then-opens_part c = part_there c.args.nodes.now c.loop-p.at c.in-Some.p (sym c.parent_at.ensures.value ∙ c.in-Some.is) (sym c.opens_part.ensures ∙ c.if-opens_part.true) ∙ c.loop-p.invariant

pub returns-then-is_block_at : goal.returns-then-is_block_at
returns-then-is_block_at c = own_there c.args.nodes.now c.loop-p.at c.in-Some.p (sym c.parent_at.ensures.value ∙ c.in-Some.is) (sym c.opens_part.ensures ∙ c.if-opens_part.false) (sym c.is_block_at.ensures ∙ c.if-is_block_at.true) ∙ c.loop-p.invariant

pub loop-p-preserved : goal.loop-p-preserved
loop-p-preserved c = none_there c.args.nodes.now c.loop-p.at c.in-Some.p (sym c.parent_at.ensures.value ∙ c.in-Some.is) (sym c.opens_part.ensures ∙ c.if-opens_part.false) (sym c.is_block_at.ensures ∙ c.if-is_block_at.false) ∙ c.loop-p.invariant

pub returns : goal.returns
returns c = none_around c.args.nodes.now c.loop-p.at (sym c.parent_at.ensures.value ∙ c.in_default.is) ∙ c.loop-p.invariant
