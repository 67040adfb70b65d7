pub use Rattle.declaration_laws.proofs.definition_laws.earlier_initialisers.Coming.{initialisers_earlier}
