pub use Rattle.parsed_tree_laws.proofs.ordered_parts.Read.{parts_follow}
