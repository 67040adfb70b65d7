use Rattle.core_tree.specs.Seen.{core_of}
use Rattle.ref_statements.proofs.Initialised.{parts_past}
use Rattle.ref_statements.proofs.initialisers.parts.Goals as goal

pub returns-then-k-children : goal.returns-then-k-children
returns-then-k-children c =
    parts_past (core_of c.args.world.now.trees) c.args.paths.now c.args.children.now c.args.values.now c.loop-k.k c.loop-k.list.items _ c.if-k-children.true c.loop-k.invariant
