-- What this crate passes on, from those below it to those above it.
pub use Rattle.valid_unit_laws.proofs.object_initialiser_laws.static_value_laws.fixed_laws.Whole.{fixed_whole}
