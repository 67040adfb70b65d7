pub use Rattle.declaration_laws.proofs.definition_laws.linkage_laws.Seen.{some_same, no_both, apart, list_in, none_some, parent_is, parent_holds, node_within, nodes, child_is, production_is, production_same, children_are, node_has}
