pub use Rattle.core_node_laws.proofs.literal_nodes.Unnamed.{unnamed}
