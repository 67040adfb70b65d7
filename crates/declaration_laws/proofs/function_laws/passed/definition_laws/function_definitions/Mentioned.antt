pub use Rattle.declaration_laws.proofs.definition_laws.function_definitions.Mentioned.{children_is, declarator_inner, find_here, find_next, find_none, find_past, in_last, is_production, leaf_inner, node_inner, quiet_all, sign_plain, suffix_test}
