pub use Rattle.declaration_laws.proofs.definition_laws.block_laws.Whole.{blocks_differ}
