-- What this crate passes on, from those below it to those above it.
pub use Rattle.c_initialise.specs.passed.sense_laws.Sound.{AgreesWith, MeaningFits}
