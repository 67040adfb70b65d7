-- What this crate passes on, from those below it to those above it.
pub use Rattle.declaration_laws.specs.function_laws.passed.definition_laws.initialiser_laws.Initialisers.{InitialisersAreOf}
