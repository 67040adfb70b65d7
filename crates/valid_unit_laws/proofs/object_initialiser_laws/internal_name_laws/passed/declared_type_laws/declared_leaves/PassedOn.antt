pub use Rattle.declaration_laws.proofs.declared_type_laws.declared_leaves.PassedOn.{known_at, world_of, known, told_before, row_as, fitted, first_in, last_found}
