pub use Rattle.core_nodes.proofs.SameTypes.{type_sound, type_same}
