pub use Rattle.declaration_laws.proofs.definition_laws.linkage_laws.Seen.{some_same, none_some, no_both, apart, parent_holds, parent_is, nodes, production_same, children_are, child_is, node_has, node_within, production_is, name_is}
