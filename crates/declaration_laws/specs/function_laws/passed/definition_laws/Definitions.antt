pub use Rattle.declaration_laws.specs.definition_laws.Definitions.{is_definition, InDefinition, itself, below, HasDefinition}
pub use Rattle.declaration_laws.specs.definition_laws.Definitions.{is_block_part}
