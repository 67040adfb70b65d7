pub use Rattle.core_node_laws.specs.built_unit_laws.literal_types.PassedOn.{types_declared, IsGrown}
