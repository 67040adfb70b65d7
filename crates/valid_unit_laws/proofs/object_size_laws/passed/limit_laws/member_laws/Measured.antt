pub use Rattle.limit_laws.proofs.member_laws.Measured.{values_have_sizes}
