-- What this crate passes on, from those below it to those above it.
pub use Rattle.c_conversions.proofs.Constants.{core_stands, rows_under}
