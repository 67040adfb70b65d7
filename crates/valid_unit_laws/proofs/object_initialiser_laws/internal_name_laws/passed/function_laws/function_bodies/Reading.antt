pub use Rattle.declaration_laws.proofs.function_laws.function_bodies.Reading.{functions_stand, parts_of, declarators_of}
