pub use Rattle.parsed_tree_laws.proofs.placed_laws.Once.{Extends, walks_extend, opens_extend}
