pub use Rattle.parsed_tree_laws.specs.sense_laws.Senses.{AllInitialise, RunsIn, ChildrenFirst, StatementGrammar, AreInitialisers}
pub use Rattle.parsed_tree_laws.specs.sense_laws.Senses.{is_block_part, IsInitialiser}
