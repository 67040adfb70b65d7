pub use Rattle.declaration_laws.proofs.definition_laws.scope_laws.Around.{above_external}
