pub use Rattle.parsed_tree_laws.proofs.grown_parts.Declaring.{AllIn, rest_parts, rest_list}
