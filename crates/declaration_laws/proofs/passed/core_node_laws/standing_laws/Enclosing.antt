pub use Rattle.core_node_laws.proofs.standing_laws.Enclosing.{EnclosesSense, switches_stop}
