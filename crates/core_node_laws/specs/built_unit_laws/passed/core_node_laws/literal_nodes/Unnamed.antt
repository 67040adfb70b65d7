pub use Rattle.core_node_laws.specs.literal_nodes.Unnamed.{IsUnnamed}
