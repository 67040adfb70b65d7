-- What this crate passes on, from those below it to those above it.
pub use Rattle.parsed_tree_laws.proofs.placed_laws.Climbing.{Grown, found_where, row_at}
pub use Rattle.parsed_tree_laws.proofs.placed_laws.Once.{Extends}
pub use Rattle.parsed_tree_laws.proofs.placed_laws.Adding.{All, all_on, row_adds}
pub use Rattle.parsed_tree_laws.proofs.placed_laws.Growing.{grown_read}
pub use Rattle.parsed_tree_laws.proofs.placed_laws.Names.{found}
pub use Rattle.parsed_tree_laws.proofs.placed_laws.Rows.{all_bring, left, one_chosen, right, row_brings, rows_bring}
