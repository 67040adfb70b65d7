pub use Rattle.declaration_laws.proofs.declared_type_laws.known_entities.Known.{entities_known}
