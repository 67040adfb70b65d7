pub use Rattle.parsed_tree_laws.proofs.nesting_laws.PassedOn.{Grown, found, Extends, row_at, All, all_on, grown_read, found_where, left, right, all_bring, rows_bring, row_brings, one_chosen, row_adds}
