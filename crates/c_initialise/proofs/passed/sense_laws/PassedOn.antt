pub use Rattle.parsed_tree_laws.proofs.sense_laws.PassedOn.{core_is}
