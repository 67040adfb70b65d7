pub use Rattle.declaration_laws.proofs.definition_laws.linkage_laws.Unlinked.{lives, local, all_internal, stands_for, Made, made, IsInternal, declared_local}
