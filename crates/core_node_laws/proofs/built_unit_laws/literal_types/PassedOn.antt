-- What this crate passes on, from those below it to those above it.
pub use Rattle.core_node_laws.proofs.built_unit_laws.built_rows.Placed.{rows_asked}
pub use Rattle.core_node_laws.proofs.built_unit_laws.run_laws.Running.{declarations_run}
pub use Rattle.core_node_laws.proofs.built_unit_laws.run_laws.PassedOn.{in_list, parent_is}
