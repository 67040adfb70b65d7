pub use Rattle.parsed_tree_laws.proofs.grown_parts.Allowed.{abstract_list, declarator_list, declarator_parts, either_list}
