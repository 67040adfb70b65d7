pub use Rattle.declaration_laws.proofs.definition_laws.linkage_laws.Linked.{Tree, stands_linked, linked_named, Named, named, declaration_is}
