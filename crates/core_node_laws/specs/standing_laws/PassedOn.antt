-- What this crate passes on, from those below it to those above it.
pub use Rattle.parsed_tree_laws.specs.passed.sense_laws.Senses.{AllInitialise, RunsIn}
pub use Rattle.parsed_tree_laws.specs.passed.sense_laws.Sound.{Gives}
