pub use Rattle.parsed_tree_laws.specs.statement_shapes.Shaped.{is_part, of_word, allowed, ShapedStatements}
