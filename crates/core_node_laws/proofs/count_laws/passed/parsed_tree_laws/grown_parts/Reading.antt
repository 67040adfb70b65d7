pub use Rattle.parsed_tree_laws.proofs.grown_parts.Reading.{units_bring}
