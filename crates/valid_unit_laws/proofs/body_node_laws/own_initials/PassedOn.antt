-- What this crate passes on, from those below it to those above it.
pub use Rattle.valid_unit_laws.proofs.object_initialiser_laws.initial_entities.Rows.{initialisers_own}
