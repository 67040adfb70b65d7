-- What this crate passes on, from those below it to those above it.
pub use Rattle.expression_rows.specs.Readable.{IsReadable}
pub use Rattle.expression_rows.specs.Built.{built_row}
