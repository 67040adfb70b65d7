pub use Rattle.declaration_laws.proofs.definition_laws.function_definitions.Declaring.{declared_by_outermost, sign_is, outer_is, Declares}
