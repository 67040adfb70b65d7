pub use Rattle.c_grammar.specs.Productions.{p_external, p_rest, p_specs, p_qualifier, p_field, p_declarator}
pub use Rattle.c_grammar.specs.Productions.{p_abstract, p_either, p_suffix, p_parameter, p_block, p_assignment}
pub use Rattle.c_grammar.specs.Productions.{p_asm_name, p_align, p_enumerator, p_init, p_designator, p_statement}
pub use Rattle.c_grammar.specs.Productions.{p_unary, p_assert, p_struct, p_members, p_type_name, p_expression}
pub use Rattle.c_grammar.specs.Productions.{p_conditional, p_logical_or, p_logical_and, p_inclusive_or}
pub use Rattle.c_grammar.specs.Productions.{p_exclusive_or, p_and, p_equality, p_relational, p_shift, p_additive}
pub use Rattle.c_grammar.specs.Productions.{p_multiplicative, p_cast, p_post, p_primary, p_member, p_declaration}
pub use Rattle.c_grammar.specs.Productions.{p_type, p_enum, p_items, p_storage, p_function, p_enumerators}
