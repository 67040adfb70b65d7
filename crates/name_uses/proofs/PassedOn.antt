-- What this crate passes on, from those below it to those above it.
pub use Rattle.expression_rows.proofs.Readable.{built_whole}
