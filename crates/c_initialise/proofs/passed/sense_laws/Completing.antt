pub use Rattle.parsed_tree_laws.proofs.sense_laws.Completing.{grown_by_one}
