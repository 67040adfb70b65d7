pub use Rattle.parsed_tree_laws.proofs.placed_laws.Rows.{declarators, one_chosen, all_bring, rows_bring, row_brings, left, right}
