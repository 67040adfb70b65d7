-- What this crate passes on, from those below it to those above it.
pub use Rattle.linked_laws.proofs.system_laws.item_laws.Items.{items_fit}
pub use Rattle.linked_laws.proofs.system_laws.item_laws.Spots.{spots_fit}
