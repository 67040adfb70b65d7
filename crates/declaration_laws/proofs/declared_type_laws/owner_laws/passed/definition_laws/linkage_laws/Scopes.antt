pub use Rattle.declaration_laws.proofs.definition_laws.linkage_laws.Scopes.{rests_nest, inner}
