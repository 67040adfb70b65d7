pub use Rattle.declaration_laws.specs.definition_laws.initialiser_laws.Initialisers.{InitialisersAreOf}
