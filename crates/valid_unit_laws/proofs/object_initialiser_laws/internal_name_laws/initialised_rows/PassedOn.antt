-- What this crate passes on, from those below it to those above it.
pub use Rattle.valid_unit_laws.proofs.object_initialiser_laws.internal_name_laws.text_rows.Fitting.{asked_fit, grown}
pub use Rattle.valid_unit_laws.proofs.object_initialiser_laws.internal_name_laws.text_rows.Linked.{tree_grown, types_fit}
