pub use Rattle.limit_laws.proofs.literal_laws.Readable.{units_readable}
