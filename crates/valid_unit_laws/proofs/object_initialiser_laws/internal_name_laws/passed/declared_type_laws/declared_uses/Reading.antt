pub use Rattle.declaration_laws.proofs.declared_type_laws.declared_uses.Reading.{uses_declared}
