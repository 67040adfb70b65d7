use Rattle.core_tree.specs.Seen.{core_of}
use Rattle.ref_blocks.specs.declared.block.Block.TheVariants.{Part}
use Rattle.ref_statements.proofs.Fresh.{left_fresh}
use Rattle.ref_statements.proofs.nodes.part_left.Goals as goal

pub returns-in-Some-clause-fresh : goal.returns-in-Some-clause-fresh
returns-in-Some-clause-fresh c =
    left_fresh (core_of c.args.world.now.trees) (Part c.in-Some.part) c.args.memory.now c.in_ok-doors.doors c.left.result c.in_ok-doors.ensures.fresh c.left.ensures.blocks
