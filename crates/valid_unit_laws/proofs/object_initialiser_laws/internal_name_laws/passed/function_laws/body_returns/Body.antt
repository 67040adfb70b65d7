pub use Rattle.declaration_laws.proofs.function_laws.body_returns.Body.{two_counted}
