-- What this crate passes on, from those below it to those above it.
pub use Rattle.declaration_laws.proofs.declared_type_laws.declared_once.Knowing.{In, declared_once, kept_in}
