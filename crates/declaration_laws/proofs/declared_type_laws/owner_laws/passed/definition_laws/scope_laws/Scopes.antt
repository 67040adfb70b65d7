pub use Rattle.declaration_laws.proofs.definition_laws.scope_laws.Scopes.{Part, Below, IsOf, IsNot, children_are, apart, equal, found_in}
