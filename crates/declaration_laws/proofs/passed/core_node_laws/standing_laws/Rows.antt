pub use Rattle.core_node_laws.proofs.standing_laws.Rows.{acts, acts_in}
