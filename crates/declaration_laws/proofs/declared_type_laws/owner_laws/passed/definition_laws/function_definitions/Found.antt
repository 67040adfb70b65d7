pub use Rattle.declaration_laws.proofs.definition_laws.function_definitions.Found.{comes_out, external_hands, declarator_declares}
