pub use Rattle.declaration_laws.proofs.declared_type_laws.owner_laws.held_runs.PassedOn.{units_hold_parts}
