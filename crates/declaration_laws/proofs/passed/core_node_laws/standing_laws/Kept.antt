pub use Rattle.core_node_laws.proofs.standing_laws.Kept.{opens, is_plain, block_part, RowGood, KeptSense}
