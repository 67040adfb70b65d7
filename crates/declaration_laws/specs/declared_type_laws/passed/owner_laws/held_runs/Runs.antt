pub use Rattle.declaration_laws.specs.declared_type_laws.owner_laws.held_runs.Runs.{BlockWith}
