pub use Rattle.parsed_tree_laws.specs.sense_laws.Senses.{ChildrenFirst, ConstantsFit, StatementGrammar, SoundSense, RunsIn}
pub use Rattle.parsed_tree_laws.specs.sense_laws.Senses.{InitialisersFit, AreProperParts}
