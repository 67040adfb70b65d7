pub use Rattle.core_node_laws.proofs.built_unit_laws.literal_types.Fitting.{literals_fit}
