-- What this crate passes on, from those below it to those above it.
pub use Rattle.valid_unit_laws.proofs.body_node_laws.own_initials.Roots.{IsBlock, IsRoot, root_counts, root_within, two_below}
pub use Rattle.valid_unit_laws.proofs.body_node_laws.own_initials.Names.{both}
pub use Rattle.valid_unit_laws.proofs.body_node_laws.own_initials.Trees.{one_in, stands}
pub use Rattle.valid_unit_laws.proofs.body_node_laws.own_initials.Functions.{child}
pub use Rattle.valid_unit_laws.proofs.body_node_laws.own_initials.Automatic.{IsAutomatic, OwnBody, automatic, body_of}
