pub use Rattle.core_node_laws.proofs.built_unit_laws.run_laws.Running.{first_in, last_found}
