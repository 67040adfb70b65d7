-- What this crate passes on, from those below it to those above it.
pub use Rattle.c_senses.specs.Names.{numbered}
unfoldable pub use Rattle.c_senses.specs.Names.{source_of}
pub use Rattle.c_senses.specs.Tree.{Source, children_at, children_of, is_a, production_at, production_of}
pub use Rattle.c_parser.specs.c_units.Units.{IsUnit}
