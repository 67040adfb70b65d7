pub use Rattle.limit_laws.proofs.Limited.{units_limited}
