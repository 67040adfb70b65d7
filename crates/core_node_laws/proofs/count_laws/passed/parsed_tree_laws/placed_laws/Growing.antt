pub use Rattle.parsed_tree_laws.proofs.placed_laws.Growing.{grown_read}
