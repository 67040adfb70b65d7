pub use Rattle.declaration_laws.proofs.definition_laws.Reading.{reach_down, has_definition, block_parts}
