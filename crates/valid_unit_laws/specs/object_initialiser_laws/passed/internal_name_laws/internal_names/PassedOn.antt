pub use Rattle.valid_unit_laws.specs.object_initialiser_laws.internal_name_laws.internal_names.PassedOn.{AreScoped}
