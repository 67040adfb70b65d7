-- What this crate passes on, from those below it to those above it.
pub use Rattle.core_node_laws.specs.built_unit_laws.built_units.Built.{IsBuilt}
