pub use Rattle.core_node_laws.proofs.built_unit_laws.parameter_bodies.Bare.{parameters_bare}
