-- What this crate passes on, from those below it to those above it.
pub use Rattle.declaration_laws.proofs.declared_type_laws.owner_laws.Whole.{grown_of}
pub use Rattle.declaration_laws.proofs.declared_type_laws.owner_laws.Walk.{under_further}
