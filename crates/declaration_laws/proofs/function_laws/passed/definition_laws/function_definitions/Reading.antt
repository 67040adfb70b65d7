pub use Rattle.declaration_laws.proofs.definition_laws.function_definitions.Reading.{definitions_declare, heads}
