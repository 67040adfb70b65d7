pub use Rattle.valid_unit_laws.proofs.object_initialiser_laws.internal_name_laws.initialised_rows.PassedOn.{asked_fit, types_fit, tree_grown}
