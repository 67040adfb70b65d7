-- What this crate passes on, from those below it to those above it.
pub use Rattle.parsed_tree_laws.specs.family_laws.Families.{Families, IsChild}
