-- What this crate passes on, from those below it to those above it.
pub use Rattle.core_node_laws.proofs.passed.parsed_tree_laws.grown_parts.Declaring.{AllIn}
pub use Rattle.core_node_laws.proofs.passed.parsed_tree_laws.grown_parts.Allowed.{abstract_list, declarator_list, declarator_parts, either_list}
pub use Rattle.core_node_laws.proofs.standing_laws.Climbing.{found_where, in_list, parent_holds, parent_is}
