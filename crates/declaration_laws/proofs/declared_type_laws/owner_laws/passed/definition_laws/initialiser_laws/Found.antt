pub use Rattle.declaration_laws.proofs.definition_laws.initialiser_laws.Found.{initialisers_found}
