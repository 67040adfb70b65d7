-- What this crate passes on, from those below it to those above it.
pub use Rattle.declaration_laws.proofs.function_laws.body_returns.Built.{grown, placed}
pub use Rattle.declaration_laws.proofs.function_laws.passed.definition_laws.initialiser_laws.Found.{initialisers_found}
pub use Rattle.declaration_laws.proofs.declared_type_laws.passed.built_unit_laws.run_laws.Times.{known_at, world_of}
pub use Rattle.declaration_laws.proofs.declared_type_laws.passed.built_unit_laws.run_laws.Running.{last_found}
