pub use Rattle.parsed_tree_laws.proofs.grown_parts.Allowed.{rows_in, brings_in}
