pub use Rattle.valid_unit_laws.proofs.object_initialiser_laws.internal_name_laws.initialised_rows.Owning.{linked_fit}
