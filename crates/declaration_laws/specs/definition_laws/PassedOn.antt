-- What this crate passes on, from those below it to those above it.
pub use Rattle.c_parser.specs.c_units.Units.{IsUnit}
