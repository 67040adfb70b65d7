pub use Rattle.valid_unit_laws.specs.object_initialiser_laws.bodies_fit.PassedOn.{InternalFit}
