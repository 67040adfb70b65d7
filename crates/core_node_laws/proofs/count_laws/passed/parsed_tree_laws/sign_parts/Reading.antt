pub use Rattle.parsed_tree_laws.proofs.sign_parts.Reading.{units_bring}
