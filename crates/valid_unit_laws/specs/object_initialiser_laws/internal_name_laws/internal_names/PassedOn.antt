-- What this crate passes on, from those below it to those above it.
pub use Rattle.declaration_laws.specs.declared_type_laws.linked_scopes.Scoped.{AreScoped}
