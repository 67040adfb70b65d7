pub use Rattle.core_node_laws.proofs.standing_laws.Walking.{Blind, same_test, Stopped, Held, walk, still_below}
