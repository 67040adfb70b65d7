pub use Rattle.declaration_laws.proofs.definition_laws.earlier_initialisers.PassedOn.{IsRestList, Begins, rest_list, apart, Reads, parts}
