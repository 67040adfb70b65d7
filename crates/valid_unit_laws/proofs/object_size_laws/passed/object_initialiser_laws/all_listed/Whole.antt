pub use Rattle.valid_unit_laws.proofs.object_initialiser_laws.all_listed.Whole.{units_list}
