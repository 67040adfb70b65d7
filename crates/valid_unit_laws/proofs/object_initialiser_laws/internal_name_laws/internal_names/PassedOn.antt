-- What this crate passes on, from those below it to those above it.
pub use Rattle.declaration_laws.proofs.declared_type_laws.linked_scopes.Reading.{linked_scoped}
pub use Rattle.declaration_laws.proofs.declared_type_laws.known_entities.Further.{further_known}
