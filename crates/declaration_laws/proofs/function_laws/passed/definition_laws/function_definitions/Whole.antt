pub use Rattle.declaration_laws.proofs.definition_laws.function_definitions.Whole.{declarator_gives, declarator_asks}
