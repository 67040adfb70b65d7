-- What this crate passes on, from those below it to those above it.
pub use Rattle.c_declarators.specs.Parameters.{is_definition_of, no_steps}
pub use Rattle.c_declarators.specs.Parts.{first_declarator}
