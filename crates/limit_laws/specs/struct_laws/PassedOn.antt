-- What this crate passes on, from those below it to those above it.
pub use Rattle.struct_rows.specs.Taken.{bits_fit, is_flexible, is_none_left, takes, takes_member, type_fits}
