pub use Rattle.parsed_tree_laws.proofs.family_laws.Reading.{units_families}
