pub use Rattle.declaration_laws.specs.declared_type_laws.owner_laws.automatic_runs.Automatic.{RunsFor}
