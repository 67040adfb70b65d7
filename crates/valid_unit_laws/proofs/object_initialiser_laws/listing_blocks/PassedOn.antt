-- What this crate passes on, from those below it to those above it.
pub use Rattle.valid_unit_laws.proofs.object_initialiser_laws.block_trees.Off.{Above, above_blocks}
pub use Rattle.valid_unit_laws.proofs.object_initialiser_laws.block_trees.Chain.{blocks_cover, on_blockish}
