pub use Rattle.core_node_laws.specs.built_unit_laws.parameter_bodies.PassedOn.{IsGrown, IsMade}
