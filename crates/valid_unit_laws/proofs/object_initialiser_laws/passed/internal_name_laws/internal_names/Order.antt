pub use Rattle.valid_unit_laws.proofs.object_initialiser_laws.internal_name_laws.internal_names.Order.{used, earlier}
