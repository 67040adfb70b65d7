pub use Rattle.parsed_tree_laws.proofs.sense_laws.Standing.{node_stands}
