-- What this crate passes on, from those below it to those above it.
pub use Rattle.valid_unit_laws.specs.object_initialiser_laws.object_bodies.Objects.{InitialisersPlaced, IsPlaced}
