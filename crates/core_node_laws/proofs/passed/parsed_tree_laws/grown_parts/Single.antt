pub use Rattle.parsed_tree_laws.proofs.grown_parts.Single.{AtMostOne, sole, cast_list, unary_list}
