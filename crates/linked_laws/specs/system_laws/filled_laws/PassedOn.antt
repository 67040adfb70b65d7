-- What this crate passes on, from those below it to those above it.
pub use Rattle.linked_laws.specs.system_laws.item_laws.Items.{ArePlaced}
