pub use Rattle.parsed_tree_laws.proofs.placed_laws.Climbing.{found_where}
