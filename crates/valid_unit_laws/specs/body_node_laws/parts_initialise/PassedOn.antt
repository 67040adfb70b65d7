-- What this crate passes on, from those below it to those above it.
pub use Rattle.valid_unit_laws.specs.object_initialiser_laws.passed.internal_name_laws.text_rows.Texts.{TypesFit}
