pub use Rattle.parsed_tree_laws.specs.nesting_laws.Nested.{Nested}
