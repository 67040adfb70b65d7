pub use Rattle.core_node_laws.specs.literal_nodes.Holding.{Holds, OfSense, RowGives, MeaningGives}
