pub use Rattle.declaration_laws.specs.declared_type_laws.known_entities.Entities.{IsKnownAt}
