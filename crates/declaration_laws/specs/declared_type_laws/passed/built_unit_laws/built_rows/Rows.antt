pub use Rattle.core_node_laws.specs.built_unit_laws.built_rows.Rows.{types_declared, literal_type}
