pub use Rattle.parsed_tree_laws.proofs.counted_parts.Read.{parts_are_counted}
