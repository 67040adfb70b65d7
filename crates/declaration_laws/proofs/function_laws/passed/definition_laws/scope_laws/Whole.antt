pub use Rattle.declaration_laws.proofs.definition_laws.scope_laws.Whole.{names_declared_once}
