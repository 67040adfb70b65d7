pub use Rattle.declaration_laws.proofs.definition_laws.function_origins.Declaring.{declares}
