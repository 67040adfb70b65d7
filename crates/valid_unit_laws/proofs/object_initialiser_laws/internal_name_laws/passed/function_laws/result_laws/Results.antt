pub use Rattle.declaration_laws.proofs.function_laws.result_laws.Results.{results_sized}
