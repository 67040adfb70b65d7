-- What this crate passes on, from those below it to those above it.
pub use Rattle.declaration_laws.proofs.definition_laws.function_definitions.Declaring.{Declares, declared_by_outermost, outer_is}
