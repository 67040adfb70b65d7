-- What this crate passes on, from those below it to those above it.
pub use Rattle.declaration_laws.proofs.declared_type_laws.object_types.Typing.{objects_typed}
pub use Rattle.declaration_laws.proofs.declared_type_laws.object_types.PassedOn.{SomeFits, no_value, plain_names_fit}
