pub use Rattle.declaration_laws.proofs.definition_laws.scope_laws.Scopes.{Part, Below, children_are, IsOf}
