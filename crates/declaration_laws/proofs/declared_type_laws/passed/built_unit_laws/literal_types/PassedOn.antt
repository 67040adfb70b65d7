pub use Rattle.core_node_laws.proofs.built_unit_laws.literal_types.PassedOn.{declarations_run, rows_asked, in_list, parent_is}
