pub use Rattle.parsed_tree_laws.proofs.statement_shapes.Rows.{statements_shaped}
