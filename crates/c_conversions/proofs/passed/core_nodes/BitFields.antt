pub use Rattle.core_nodes.proofs.BitFields.{width_listed}
