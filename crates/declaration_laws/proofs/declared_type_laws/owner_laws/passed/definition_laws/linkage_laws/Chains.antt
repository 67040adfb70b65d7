pub use Rattle.declaration_laws.proofs.definition_laws.linkage_laws.Chains.{either_is, declaring, name_reached, Declares, declares, Reached}
