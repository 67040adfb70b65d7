pub use Rattle.declaration_laws.proofs.definition_laws.Locals.{locals}
