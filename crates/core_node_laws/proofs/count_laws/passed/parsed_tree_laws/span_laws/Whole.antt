pub use Rattle.parsed_tree_laws.proofs.span_laws.Whole.{units_are_spanned}
