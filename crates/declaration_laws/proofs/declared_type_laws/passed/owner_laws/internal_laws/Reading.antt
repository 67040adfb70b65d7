pub use Rattle.declaration_laws.proofs.declared_type_laws.owner_laws.internal_laws.Reading.{definitions_known}
