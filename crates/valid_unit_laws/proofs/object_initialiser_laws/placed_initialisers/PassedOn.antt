-- What this crate passes on, from those below it to those above it.
pub use Rattle.valid_unit_laws.proofs.object_initialiser_laws.object_bodies.Bodies.{OwnBody, body_initialises, named_body}
