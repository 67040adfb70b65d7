-- What this crate passes on, from those below it to those above it.
pub use Rattle.parsed_tree_laws.proofs.family_laws.Reading.{units_families}
