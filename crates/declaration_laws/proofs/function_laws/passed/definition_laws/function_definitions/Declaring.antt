pub use Rattle.declaration_laws.proofs.definition_laws.function_definitions.Declaring.{sign_is}
