-- What this crate passes on, from those below it to those above it.
pub use Rattle.declaration_laws.proofs.definition_laws.function_definitions.Reading.{definitions_declare}
