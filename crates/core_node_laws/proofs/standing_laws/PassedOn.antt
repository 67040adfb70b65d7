-- What this crate passes on, from those below it to those above it.
pub use Rattle.parsed_tree_laws.proofs.passed.sense_laws.Giving.{and_left, if_given, if_holds, some_given, then_gives}
pub use Rattle.parsed_tree_laws.proofs.passed.sense_laws.Types.{anything}
