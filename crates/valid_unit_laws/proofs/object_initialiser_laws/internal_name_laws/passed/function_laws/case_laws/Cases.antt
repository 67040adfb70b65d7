pub use Rattle.declaration_laws.proofs.function_laws.case_laws.Cases.{cases_differ}
