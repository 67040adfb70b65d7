pub use Rattle.declaration_laws.specs.definition_laws.Definitions.{InDefinition, itself, below, is_definition, HasDefinition}
