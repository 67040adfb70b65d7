-- What this crate passes on, from those below it to those above it.
pub use Rattle.valid_unit_laws.proofs.body_node_laws.parts_named.Known.{parts_known}
