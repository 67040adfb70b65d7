pub use Rattle.declaration_laws.proofs.declared_type_laws.owner_laws.automatic_runs.PassedOn.{units_run_initialisers}
