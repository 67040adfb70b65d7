use Rattle.std.proofs.Common.{sym}
use Rattle.ref_blocks.specs.declared.ways.Sought.TheVariants.{LoopAlone}
use Rattle.ref_blocks.specs.Ways.{is_sought}
use Rattle.ref_statements.proofs.Nearest.{nearest_within}
use Rattle.ref_statements.proofs.jumping.continue_row.Goals as goal

pub blocks_with-requires-clause-node : goal.blocks_with-requires-clause-node
blocks_with-requires-clause-node c = nearest_within c.args.world.now.trees.nodes.now (is_sought LoopAlone) c.args.n c.in-Some.a (sym c.in-Some.ensures)
