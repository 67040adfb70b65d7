pub use Rattle.declaration_laws.proofs.definition_laws.own_initialisers.Searching.{Reads, StandsAs, is_as, head_in, next_in, apart, sign_is}
