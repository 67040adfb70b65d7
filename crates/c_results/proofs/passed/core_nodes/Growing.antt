pub use Rattle.core_nodes.proofs.Growing.{knows_on}
