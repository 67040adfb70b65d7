pub use Rattle.declaration_laws.proofs.definition_laws.own_initialisers.Standing.{initialisers_stand}
