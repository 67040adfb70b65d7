pub use Rattle.valid_unit_laws.proofs.object_initialiser_laws.bodies_fit.Fitting.{bodies_fit}
