pub use Rattle.parsed_tree_laws.proofs.placed_laws.Adding.{All, all_on, all_both, row_adds, part_adds}
