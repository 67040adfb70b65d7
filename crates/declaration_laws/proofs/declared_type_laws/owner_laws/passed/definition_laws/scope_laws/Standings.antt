pub use Rattle.declaration_laws.proofs.definition_laws.scope_laws.Standings.{each_stands}
