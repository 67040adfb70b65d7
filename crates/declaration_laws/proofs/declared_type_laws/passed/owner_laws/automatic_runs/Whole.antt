pub use Rattle.declaration_laws.proofs.declared_type_laws.owner_laws.automatic_runs.Whole.{automatic_runs}
