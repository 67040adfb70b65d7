pub use Rattle.declaration_laws.proofs.function_laws.body_laws.Apart.{one_body_each}
