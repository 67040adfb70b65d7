-- What this crate passes on, from those below it to those above it.
pub use Rattle.parsed_tree_laws.specs.sense_laws.Senses.{SoundSense}
pub use Rattle.parsed_tree_laws.specs.sense_laws.Sound.{Gives}
