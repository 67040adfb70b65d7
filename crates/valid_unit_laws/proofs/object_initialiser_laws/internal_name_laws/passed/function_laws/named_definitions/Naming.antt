pub use Rattle.declaration_laws.proofs.function_laws.named_definitions.Naming.{definitions_named}
