-- What this crate passes on, from those below it to those above it.
pub use Rattle.core_node_laws.proofs.built_unit_laws.run_laws.Times.{fitted, known, known_at, row_as, told_before, world_of}
pub use Rattle.core_node_laws.proofs.built_unit_laws.run_laws.Running.{first_in, last_found}
