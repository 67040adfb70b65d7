pub use Rattle.expression_rows.specs.Readable.{IsReadable}
