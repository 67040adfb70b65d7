-- What this crate passes on, from those below it to those above it.
pub use Rattle.declaration_laws.specs.declared_type_laws.agreed_internals.Agreeing.{AreAgreed}
pub use Rattle.valid_unit_laws.specs.object_initialiser_laws.internal_name_laws.initialised_rows.Rows.{InternalFit}
