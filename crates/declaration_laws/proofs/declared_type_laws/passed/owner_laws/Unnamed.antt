pub use Rattle.declaration_laws.proofs.declared_type_laws.owner_laws.Unnamed.{literal_unnamed}
