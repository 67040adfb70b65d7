pub use Rattle.parsed_tree_laws.proofs.placed_laws.Climbing.{Grown, AtMostOne, AllOther, is_other, is_other_in, IsDeclaring, equal, no_both, exists_at, found_where, IsNamedPart, row_at}
