pub use Rattle.declaration_laws.proofs.definition_laws.parameter_lists.Whole.{parameters_listed}
