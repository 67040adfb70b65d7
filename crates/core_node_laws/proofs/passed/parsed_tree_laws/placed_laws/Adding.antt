pub use Rattle.parsed_tree_laws.proofs.placed_laws.Adding.{All, all_on, row_adds}
