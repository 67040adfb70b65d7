pub use Rattle.declaration_laws.proofs.definition_laws.linkage_laws.Unlinked.{entities_unlinked, made, Made, lives, local, all_internal}
