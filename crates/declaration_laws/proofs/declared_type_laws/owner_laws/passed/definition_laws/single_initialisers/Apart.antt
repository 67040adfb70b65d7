pub use Rattle.declaration_laws.proofs.definition_laws.single_initialisers.Apart.{are_apart, stands_outermost}
