pub use Rattle.declaration_laws.proofs.declared_type_laws.owner_laws.left_laws.PassedOn.{literal_unnamed}
