pub use Rattle.core_node_laws.proofs.marked_trees.Once.{never, blind_never, marks_plain, marks_blind, marked_once}
