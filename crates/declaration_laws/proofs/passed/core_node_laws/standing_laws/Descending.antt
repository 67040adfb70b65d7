pub use Rattle.core_node_laws.proofs.standing_laws.Descending.{F, W, row_there, sense_before, child_before, same_given, each_kept}
