-- What this crate passes on, from those below it to those above it.
pub use Rattle.core_node_laws.proofs.standing_laws.Bodies.{Above, above, found_part}
pub use Rattle.core_node_laws.proofs.standing_laws.Climbing.{child_inside, in_list, list_in, parent_is}
pub use Rattle.core_node_laws.proofs.standing_laws.Descending.{F, W, row_there, same_given}
