use Rattle.std.proofs.Common.{◌∙◌}
use Rattle.c_senses.specs.Tags.{declares_members}
use Rattle.tree_reads.specs.Sources.{source_read}
use Rattle.c_structures.proofs.Gathering.{last_more}
use Rattle.c_structures.proofs.places.last_declaring.Goals as goal

pub loop-node-preserved : goal.loop-node-preserved
loop-node-preserved c = λ w sense.
    last_more (declares_members w (source_read c.args.syntax.now) sense) c.args.list.now c.loop-node.node-index _ _ c.loop-node-test.true (c.later-last.ensures w sense) ∙ c.loop-node.invariant w sense
