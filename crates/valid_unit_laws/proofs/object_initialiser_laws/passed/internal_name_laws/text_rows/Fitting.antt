pub use Rattle.valid_unit_laws.proofs.object_initialiser_laws.internal_name_laws.text_rows.Fitting.{grown, asked_fit}
