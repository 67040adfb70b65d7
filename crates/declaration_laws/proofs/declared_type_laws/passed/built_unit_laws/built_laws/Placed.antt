pub use Rattle.core_node_laws.proofs.built_unit_laws.built_laws.Placed.{part_in_body}
