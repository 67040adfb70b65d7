use Rattle.ref_start.specs.Fixed.{value_at}
use Rattle.ref_start.proofs.FilledSteps.{children_end}
use Rattle.ref_start.proofs.start.parts_of.Goals as goal

pub returns-then-i-children : goal.returns-then-i-children
returns-then-i-children c =
    children_end c.args.nodes.now (value_at c.args.table.now) c.args.paths.now c.args.children.now c.loop-i.i c.loop-i.parts.items _ c.if-i-children.true c.loop-i.invariant
