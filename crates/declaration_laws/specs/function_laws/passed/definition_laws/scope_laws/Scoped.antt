pub use Rattle.declaration_laws.specs.definition_laws.scope_laws.Scoped.{IsPart, Rooted, DeclaredOnce}
