pub use Rattle.pta_base.specs.declared.place.Place.{Place}
