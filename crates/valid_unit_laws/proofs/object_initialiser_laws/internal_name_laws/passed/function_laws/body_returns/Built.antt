pub use Rattle.declaration_laws.proofs.function_laws.body_returns.Built.{grown, placed}
