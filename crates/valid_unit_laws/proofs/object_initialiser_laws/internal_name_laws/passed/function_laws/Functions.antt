pub use Rattle.declaration_laws.proofs.function_laws.Functions.{functions_fit}
