-- What this crate passes on, from those below it to those above it.
pub use Rattle.declaration_laws.specs.definition_laws.function_definitions.Defined.{Defines}
