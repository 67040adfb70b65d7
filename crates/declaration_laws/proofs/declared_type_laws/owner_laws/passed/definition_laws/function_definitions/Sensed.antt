pub use Rattle.declaration_laws.proofs.definition_laws.function_definitions.Sensed.{Ends, ends_more, list_returns, derives_function}
