-- What this crate passes on, from those below it to those above it.
pub use Rattle.unit_walk.specs.unit_rows.Standing.{AreKept, AreMade, Stand}
