pub use Rattle.declaration_laws.proofs.function_laws.function_bodies.Standing.{named_by}
