pub use Rattle.declaration_laws.specs.definition_laws.earlier_initialisers.Earlier.{StandsDeclaring, InitialisersComeFirst}
