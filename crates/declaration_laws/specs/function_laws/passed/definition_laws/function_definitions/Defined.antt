pub use Rattle.declaration_laws.specs.definition_laws.function_definitions.Defined.{Defines}
