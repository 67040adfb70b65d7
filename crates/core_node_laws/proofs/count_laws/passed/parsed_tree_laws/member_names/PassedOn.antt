pub use Rattle.parsed_tree_laws.proofs.member_names.PassedOn.{units_families}
