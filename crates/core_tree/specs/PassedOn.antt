-- What this crate passes on, from those below it to those above it.
pub use Rattle.pta_base.specs.declared.place.Place.{Place}
