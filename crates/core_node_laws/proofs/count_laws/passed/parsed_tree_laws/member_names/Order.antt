pub use Rattle.parsed_tree_laws.proofs.member_names.Order.{units_in_order}
