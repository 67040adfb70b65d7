pub use Rattle.declaration_laws.proofs.definition_laws.function_definitions.Sensed.{Ident, Inner, ident_bare, ident_name, inner_bare, inner_has_name, leaf_name, leaf_sense, leaf_sign, node_at, node_name, node_sign, qualifier_sense, row_is}
