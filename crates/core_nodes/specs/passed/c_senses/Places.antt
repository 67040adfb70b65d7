pub use Rattle.c_senses.specs.Places.{own_place}
