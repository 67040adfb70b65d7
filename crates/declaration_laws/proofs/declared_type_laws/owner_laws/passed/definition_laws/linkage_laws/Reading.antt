pub use Rattle.declaration_laws.proofs.definition_laws.linkage_laws.Reading.{tree_is}
