-- The row is computed over the items with an open place.
use Rattle.core_tree.specs.Seen.{core_of}
use Rattle.ref_statements.proofs.Computed.{computed_row}
use Rattle.ref_statements.proofs.nodes.compute.Goals as goal

pub returns-in-Ok-clause-row : goal.returns-in-Ok-clause-row
returns-in-Ok-clause-row c =
    computed_row (core_of c.args.world.now.trees) c.args.memory.now c.args.frame.now c.args.n c.args.node.now c.args.word c.as_slice.result.now c.values.result.now
    (record { memory = c.computed.new.memory; outcome = c.in-Ok.outcome }) c.open.new.self c.fill.new.self
    c.as_slice.ensures c.values.ensures c.in_ok-open.ensures.ok (c.in-Ok.ensures.value c.args.node.now c.requires.node) c.fill.ensures
