-- What this crate passes on, from those below it to those above it.
pub use Rattle.declaration_laws.proofs.definition_laws.own_initialisers.Parts.{Begins, IsRestList, rest_list}
pub use Rattle.declaration_laws.proofs.definition_laws.own_initialisers.Searching.{Reads, apart}
pub use Rattle.declaration_laws.proofs.definition_laws.own_initialisers.Standing.{parts}
