pub use Rattle.parsed_tree_laws.proofs.sense_laws.parsed_laws.InOrder.{children_first}
