pub use Rattle.core_node_laws.proofs.marked_trees.Earlier.{earlier}
