pub use Rattle.parsed_tree_laws.proofs.nesting_laws.Nesting.{units_nest}
