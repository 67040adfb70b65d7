pub use Rattle.declaration_laws.proofs.definition_laws.linkage_laws.Linked.{stands_linked, Named, Tree, declaration_is, linked_named}
