pub use Rattle.declaration_laws.proofs.declared_type_laws.known_entities.PassedOn.{node_within, tree_is}
