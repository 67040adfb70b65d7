pub use Rattle.declaration_laws.specs.definition_laws.scope_laws.Scoped.{IsPart, ParametersListed, DeclaredOnce, Rooted}
