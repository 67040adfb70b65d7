use Rattle.valid_unit_laws.proofs.object_initialiser_laws.block_trees.Chain.{blocks_cover}
use Rattle.valid_unit_laws.proofs.object_initialiser_laws.block_trees.laws.blocks_cover.Goals as goal

pub returns : goal.returns
returns c = blocks_cover
