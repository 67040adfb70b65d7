pub use Rattle.declaration_laws.specs.definition_laws.own_initialisers.Own.{InitialisersAreOwn}
