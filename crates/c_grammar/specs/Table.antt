-- The grammar as a table: for each production the items of its row, in order (C11 Annex A.2, with the rows in the
-- form in which at most two tokens decide each choice). Scope 0 opens a scope, Scope 1 closes it, and Scope 2
-- declares the names that were read.
use Rattle.std.specs.Prelude.{ℕ, Option, List, [], ◌∷◌, slice_get, slice_index_or}
use Rattle.c_lexer.specs.declared.TokenKind.TheVariants.{Identifier, Keyword, Punctuator, Integer, Character, Text}
use Rattle.c_lexer.specs.declared.TokenKind.TheVariants.{End}
use Rattle.c_grammar.specs.declared.rows.Item.{Item}
use Rattle.c_grammar.specs.declared.rows.Item.TheVariants.{Token, Use, Choice, Repeat, Scope}
use Rattle.c_grammar.specs.Productions.{p_external, p_rest, p_declaration, p_assert, p_asm_name, p_specs, p_storage}
use Rattle.c_grammar.specs.Productions.{p_function, p_qualifier, p_align, p_type, p_struct, p_members, p_member}
use Rattle.c_grammar.specs.Productions.{p_field, p_enum, p_enumerators, p_enumerator, p_declarator, p_abstract}
use Rattle.c_grammar.specs.Productions.{p_either, p_suffix, p_parameter, p_type_name, p_init, p_items, p_item}
use Rattle.c_grammar.specs.Productions.{p_designator, p_block, p_statement, p_expression, p_assignment}
use Rattle.c_grammar.specs.Productions.{p_conditional, p_logical_or, p_logical_and, p_inclusive_or, p_exclusive_or}
use Rattle.c_grammar.specs.Productions.{p_and, p_equality, p_relational, p_shift, p_additive, p_multiplicative}
use Rattle.c_grammar.specs.Productions.{p_cast, p_unary, p_post, p_primary, p_nothing, p_just_semicolon}
use Rattle.c_grammar.specs.Productions.{p_unit_item_1, p_unit_item, p_external_names, p_body, p_initialised}
use Rattle.c_grammar.specs.Productions.{p_more_names, p_declaration_names, p_declared_names, p_just_text, p_early_2}
use Rattle.c_grammar.specs.Productions.{p_early_1, p_early, p_more_type, p_later, p_just_typedef, p_just_extern}
use Rattle.c_grammar.specs.Productions.{p_just_static, p_just_auto, p_just_register, p_storage_3, p_storage_2}
use Rattle.c_grammar.specs.Productions.{p_storage_1, p_just_inline, p_just_noreturn, p_just_const, p_just_volatile}
use Rattle.c_grammar.specs.Productions.{p_just_restrict, p_qualifier_1, p_floating_name, p_typedef_name}
use Rattle.c_grammar.specs.Productions.{p_just_void, p_just_char, p_just_short, p_just_int, p_just_long}
use Rattle.c_grammar.specs.Productions.{p_just_float, p_just_double, p_just_signed, p_just_unsigned, p_just_bool}
use Rattle.c_grammar.specs.Productions.{p_type_12, p_type_11, p_type_10, p_type_9, p_type_8, p_type_7, p_type_6}
use Rattle.c_grammar.specs.Productions.{p_type_5, p_type_4, p_type_3, p_type_2, p_type_1, p_just_struct}
use Rattle.c_grammar.specs.Productions.{p_just_union, p_struct_tag, p_member_1, p_member_fields, p_fields}
use Rattle.c_grammar.specs.Productions.{p_more_fields, p_width, p_field_name, p_enum_tag, p_just_comma}
use Rattle.c_grammar.specs.Productions.{p_more_enumerators, p_enumerator_value, p_star, p_just_ident}
use Rattle.c_grammar.specs.Productions.{p_inner_declarator, p_inner_abstract, p_inner_either, p_either_1}
use Rattle.c_grammar.specs.Productions.{p_array_suffix, p_array_word, p_any_length, p_array_length, p_list_suffix}
use Rattle.c_grammar.specs.Productions.{p_parameters, p_more_parameters, p_further, p_braced_items, p_some_items}
use Rattle.c_grammar.specs.Productions.{p_more_items, p_designators, p_member_designator, p_index_designator}
use Rattle.c_grammar.specs.Productions.{p_range_end, p_block_item, p_block_declaration, p_label, p_case, p_case_end}
use Rattle.c_grammar.specs.Productions.{p_default_case, p_inner_statement, p_if_statement, p_else_part}
use Rattle.c_grammar.specs.Productions.{p_switch_statement, p_while_statement, p_do_statement, p_for_statement}
use Rattle.c_grammar.specs.Productions.{p_goto_statement, p_continue_statement, p_break_statement}
use Rattle.c_grammar.specs.Productions.{p_return_statement, p_expression_statement, p_statement_12, p_statement_11}
use Rattle.c_grammar.specs.Productions.{p_statement_10, p_statement_9, p_statement_8, p_statement_7, p_statement_6}
use Rattle.c_grammar.specs.Productions.{p_statement_5, p_statement_4, p_statement_3, p_statement_2, p_statement_1}
use Rattle.c_grammar.specs.Productions.{p_more_expressions, p_assigned, p_just_assign, p_just_multiply_assign}
use Rattle.c_grammar.specs.Productions.{p_just_divide_assign, p_just_remainder_assign, p_just_add_assign}
use Rattle.c_grammar.specs.Productions.{p_just_subtract_assign, p_just_shift_left_assign, p_just_shift_right_assign}
use Rattle.c_grammar.specs.Productions.{p_just_and_assign, p_just_xor_assign, p_just_or_assign, p_assign_op_9}
use Rattle.c_grammar.specs.Productions.{p_assign_op_8, p_assign_op_7, p_assign_op_6, p_assign_op_5, p_assign_op_4}
use Rattle.c_grammar.specs.Productions.{p_assign_op_3, p_assign_op_2, p_assign_op_1, p_assign_op, p_arms}
use Rattle.c_grammar.specs.Productions.{p_more_logical_or, p_more_logical_and, p_more_inclusive_or}
use Rattle.c_grammar.specs.Productions.{p_more_exclusive_or, p_more_and, p_just_equal, p_just_not_equal}
use Rattle.c_grammar.specs.Productions.{p_more_equality, p_just_less, p_just_greater, p_just_less_equal}
use Rattle.c_grammar.specs.Productions.{p_just_greater_equal, p_op_relational_2, p_op_relational_1}
use Rattle.c_grammar.specs.Productions.{p_more_relational, p_just_shift_left, p_just_shift_right, p_more_shift}
use Rattle.c_grammar.specs.Productions.{p_just_plus, p_just_minus, p_more_additive, p_just_star, p_just_slash}
use Rattle.c_grammar.specs.Productions.{p_just_percent, p_op_multiplicative_1, p_more_multiplicative, p_typed_cast}
use Rattle.c_grammar.specs.Productions.{p_literal_rest, p_just_increment, p_just_decrement, p_just_ampersand}
use Rattle.c_grammar.specs.Productions.{p_just_tilde, p_just_exclamation, p_prefix_6, p_prefix_5, p_prefix_4}
use Rattle.c_grammar.specs.Productions.{p_prefix_3, p_prefix_2, p_prefix_1, p_prefixed, p_sized, p_typed_size}
use Rattle.c_grammar.specs.Productions.{p_aligned, p_postfixed, p_unary_2, p_unary_1, p_index, p_call, p_arguments}
use Rattle.c_grammar.specs.Productions.{p_dot, p_arrow, p_post_4, p_post_3, p_post_2, p_post_1, p_texts, p_enclosed}
use Rattle.c_grammar.specs.Productions.{p_just_integer, p_just_character, p_primary_3, p_primary_2, p_primary_1}
use Rattle.c_grammar.specs.Productions.{p_list_call, p_list_pair_call, p_list_argument_call, p_list_end_call}
use Rattle.c_grammar.specs.Productions.{p_list_call_1, p_named_primary}
use Rattle.c_grammar.specs.Words.{sign_add_assign, sign_ampersand, sign_and_assign, sign_arrow, sign_assign}
use Rattle.c_grammar.specs.Words.{sign_bar, sign_both, sign_caret, sign_colon, sign_comma, sign_decrement}
use Rattle.c_grammar.specs.Words.{sign_divide_assign, sign_dot, sign_either_or, sign_ellipsis, sign_equal}
use Rattle.c_grammar.specs.Words.{sign_exclamation, sign_greater, sign_greater_equal, sign_increment}
use Rattle.c_grammar.specs.Words.{sign_left_brace, sign_left_bracket, sign_left_parenthesis, sign_less}
use Rattle.c_grammar.specs.Words.{sign_less_equal, sign_minus, sign_multiply_assign, sign_not_equal, sign_or_assign}
use Rattle.c_grammar.specs.Words.{sign_percent, sign_plus, sign_question, sign_remainder_assign, sign_right_brace}
use Rattle.c_grammar.specs.Words.{sign_right_bracket, sign_right_parenthesis, sign_semicolon, sign_shift_left}
use Rattle.c_grammar.specs.Words.{sign_shift_left_assign, sign_shift_right, sign_shift_right_assign, sign_slash}
use Rattle.c_grammar.specs.Words.{sign_star, sign_subtract_assign, sign_tilde, sign_xor_assign, word_alignas}
use Rattle.c_grammar.specs.Words.{word_alignof, word_asm, word_auto, word_bool, word_break, word_case, word_char}
use Rattle.c_grammar.specs.Words.{word_const, word_continue, word_default, word_do, word_double, word_else}
use Rattle.c_grammar.specs.Words.{word_enum, word_extern, word_float, word_for, word_goto, word_if, word_inline}
use Rattle.c_grammar.specs.Words.{word_int, word_long, word_noreturn, word_register, word_restrict, word_return}
use Rattle.c_grammar.specs.Words.{word_short, word_signed, word_sizeof, word_static, word_static_assert}
use Rattle.c_grammar.specs.Words.{word_struct, word_switch, word_typedef, word_union, word_unsigned, word_void}
use Rattle.c_grammar.specs.Words.{word_volatile, word_while}

-- the rows of the table, production by production
unfoldable pub table : List (List Item)
table =
    -- 0 unit
    (Repeat p_unit_item ∷ Token End ∷ []) ∷
    -- 1 external
    (Use p_specs ∷ Choice p_just_semicolon p_external_names ∷ []) ∷
    -- 2 rest
    (Choice p_initialised p_nothing ∷ Repeat p_more_names ∷ Token (Punctuator sign_semicolon) ∷ []) ∷
    -- 3 declaration
    (Choice p_assert p_declaration_names ∷ []) ∷
    -- 4 assert
    (Token (Keyword word_static_assert) ∷ Token (Punctuator sign_left_parenthesis) ∷ Use p_conditional
    ∷ Token (Punctuator sign_comma) ∷ Token Text ∷ Repeat p_just_text
    ∷ Token (Punctuator sign_right_parenthesis) ∷ Token (Punctuator sign_semicolon) ∷ [])
    ∷
    -- 5 asm_name
    (Token (Keyword word_asm) ∷ Token (Punctuator sign_left_parenthesis) ∷ Token Text ∷ Repeat p_just_text
    ∷ Token (Punctuator sign_right_parenthesis) ∷ [])
    ∷
    -- 6 specs
    (Repeat p_early ∷ Use p_type ∷ Repeat p_later ∷ []) ∷
    -- 7 storage
    (Choice p_just_typedef p_storage_1 ∷ []) ∷
    -- 8 function
    (Choice p_just_inline p_just_noreturn ∷ []) ∷
    -- 9 qualifier
    (Choice p_just_const p_qualifier_1 ∷ []) ∷
    -- 10 align
    (Token (Keyword word_alignas) ∷ Token (Punctuator sign_left_parenthesis)
    ∷ Choice p_type_name p_conditional ∷ Token (Punctuator sign_right_parenthesis) ∷ [])
    ∷
    -- 11 type
    (Choice p_just_void p_type_1 ∷ []) ∷
    -- 12 struct
    (Choice p_just_struct p_just_union ∷ Choice p_struct_tag p_members ∷ []) ∷
    -- 13 members
    (Token (Punctuator sign_left_brace) ∷ Use p_member ∷ Repeat p_member
    ∷ Token (Punctuator sign_right_brace) ∷ [])
    ∷
    -- 14 member
    (Choice p_just_semicolon p_member_1 ∷ []) ∷
    -- 15 field
    (Choice p_width p_field_name ∷ []) ∷
    -- 16 enum
    (Token (Keyword word_enum) ∷ Choice p_enum_tag p_enumerators ∷ []) ∷
    -- 17 enumerators
    (Token (Punctuator sign_left_brace) ∷ Use p_enumerator ∷ Repeat p_more_enumerators
    ∷ Choice p_just_comma p_nothing ∷ Token (Punctuator sign_right_brace) ∷ [])
    ∷
    -- 18 enumerator
    (Token Identifier ∷ Choice p_enumerator_value p_nothing ∷ Scope 2 ∷ []) ∷
    -- 19 declarator
    (Repeat p_star ∷ Choice p_just_ident p_inner_declarator ∷ Repeat p_suffix ∷ []) ∷
    -- 20 abstract
    (Repeat p_star ∷ Choice p_inner_abstract p_nothing ∷ Repeat p_suffix ∷ []) ∷
    -- 21 either
    (Repeat p_star ∷ Choice p_just_ident p_either_1 ∷ Repeat p_suffix ∷ []) ∷
    -- 22 suffix
    (Choice p_array_suffix p_list_suffix ∷ []) ∷
    -- 23 parameter
    (Use p_specs ∷ Use p_either ∷ Scope 2 ∷ []) ∷
    -- 24 type_name
    (Use p_specs ∷ Use p_abstract ∷ []) ∷
    -- 25 init
    (Choice p_braced_items p_assignment ∷ []) ∷
    -- 26 items
    (Choice p_some_items p_nothing ∷ []) ∷
    -- 27 item
    (Choice p_designators p_nothing ∷ Use p_init ∷ []) ∷
    -- 28 designator
    (Choice p_member_designator p_index_designator ∷ []) ∷
    -- 29 block
    (Scope 0 ∷ Token (Punctuator sign_left_brace) ∷ Repeat p_block_item
    ∷ Token (Punctuator sign_right_brace) ∷ Scope 1 ∷ [])
    ∷
    -- 30 statement
    (Choice p_label p_statement_1 ∷ []) ∷
    -- 31 expression
    (Use p_assignment ∷ Repeat p_more_expressions ∷ []) ∷
    -- 32 assignment
    (Use p_conditional ∷ Choice p_assigned p_nothing ∷ []) ∷
    -- 33 conditional
    (Use p_logical_or ∷ Choice p_arms p_nothing ∷ []) ∷
    -- 34 logical_or
    (Use p_logical_and ∷ Repeat p_more_logical_or ∷ []) ∷
    -- 35 logical_and
    (Use p_inclusive_or ∷ Repeat p_more_logical_and ∷ []) ∷
    -- 36 inclusive_or
    (Use p_exclusive_or ∷ Repeat p_more_inclusive_or ∷ []) ∷
    -- 37 exclusive_or
    (Use p_and ∷ Repeat p_more_exclusive_or ∷ []) ∷
    -- 38 and
    (Use p_equality ∷ Repeat p_more_and ∷ []) ∷
    -- 39 equality
    (Use p_relational ∷ Repeat p_more_equality ∷ []) ∷
    -- 40 relational
    (Use p_shift ∷ Repeat p_more_relational ∷ []) ∷
    -- 41 shift
    (Use p_additive ∷ Repeat p_more_shift ∷ []) ∷
    -- 42 additive
    (Use p_multiplicative ∷ Repeat p_more_additive ∷ []) ∷
    -- 43 multiplicative
    (Use p_cast ∷ Repeat p_more_multiplicative ∷ []) ∷
    -- 44 cast
    (Choice p_typed_cast p_unary ∷ []) ∷
    -- 45 unary
    (Choice p_prefixed p_unary_1 ∷ []) ∷
    -- 46 post
    (Choice p_index p_post_1 ∷ []) ∷
    -- 47 primary
    (Choice p_list_call p_named_primary ∷ []) ∷
    -- 48 nothing
    ([]) ∷
    -- 49 just_semicolon
    (Token (Punctuator sign_semicolon) ∷ []) ∷
    -- 50 unit_item_1
    (Choice p_assert p_external ∷ []) ∷
    -- 51 unit_item
    (Choice p_just_semicolon p_unit_item_1 ∷ []) ∷
    -- 52 external_names
    (Use p_declarator ∷ Scope 2 ∷ Choice p_asm_name p_nothing ∷ Choice p_body p_rest ∷ []) ∷
    -- 53 body
    (Scope 0 ∷ Scope 2 ∷ Use p_block ∷ Scope 1 ∷ []) ∷
    -- 54 initialised
    (Token (Punctuator sign_assign) ∷ Use p_init ∷ []) ∷
    -- 55 more_names
    (Token (Punctuator sign_comma) ∷ Use p_declarator ∷ Scope 2 ∷ Choice p_asm_name p_nothing
    ∷ Choice p_initialised p_nothing ∷ [])
    ∷
    -- 56 declaration_names
    (Use p_specs ∷ Choice p_just_semicolon p_declared_names ∷ []) ∷
    -- 57 declared_names
    (Use p_declarator ∷ Scope 2 ∷ Choice p_asm_name p_nothing ∷ Use p_rest ∷ []) ∷
    -- 58 just_text
    (Token Text ∷ []) ∷
    -- 59 early_2
    (Choice p_qualifier p_align ∷ []) ∷
    -- 60 early_1
    (Choice p_function p_early_2 ∷ []) ∷
    -- 61 early
    (Choice p_storage p_early_1 ∷ []) ∷
    -- 62 more_type
    (Use p_type ∷ []) ∷
    -- 63 later
    (Choice p_early p_more_type ∷ []) ∷
    -- 64 just_typedef
    (Token (Keyword word_typedef) ∷ []) ∷
    -- 65 just_extern
    (Token (Keyword word_extern) ∷ []) ∷
    -- 66 just_static
    (Token (Keyword word_static) ∷ []) ∷
    -- 67 just_auto
    (Token (Keyword word_auto) ∷ []) ∷
    -- 68 just_register
    (Token (Keyword word_register) ∷ []) ∷
    -- 69 storage_3
    (Choice p_just_auto p_just_register ∷ []) ∷
    -- 70 storage_2
    (Choice p_just_static p_storage_3 ∷ []) ∷
    -- 71 storage_1
    (Choice p_just_extern p_storage_2 ∷ []) ∷
    -- 72 just_inline
    (Token (Keyword word_inline) ∷ []) ∷
    -- 73 just_noreturn
    (Token (Keyword word_noreturn) ∷ []) ∷
    -- 74 just_const
    (Token (Keyword word_const) ∷ []) ∷
    -- 75 just_volatile
    (Token (Keyword word_volatile) ∷ []) ∷
    -- 76 just_restrict
    (Token (Keyword word_restrict) ∷ []) ∷
    -- 77 qualifier_1
    (Choice p_just_volatile p_just_restrict ∷ []) ∷
    -- 78 floating_name
    (Token Identifier ∷ []) ∷
    -- 79 typedef_name
    (Token Identifier ∷ []) ∷
    -- 80 just_void
    (Token (Keyword word_void) ∷ []) ∷
    -- 81 just_char
    (Token (Keyword word_char) ∷ []) ∷
    -- 82 just_short
    (Token (Keyword word_short) ∷ []) ∷
    -- 83 just_int
    (Token (Keyword word_int) ∷ []) ∷
    -- 84 just_long
    (Token (Keyword word_long) ∷ []) ∷
    -- 85 just_float
    (Token (Keyword word_float) ∷ []) ∷
    -- 86 just_double
    (Token (Keyword word_double) ∷ []) ∷
    -- 87 just_signed
    (Token (Keyword word_signed) ∷ []) ∷
    -- 88 just_unsigned
    (Token (Keyword word_unsigned) ∷ []) ∷
    -- 89 just_bool
    (Token (Keyword word_bool) ∷ []) ∷
    -- 90 type_12
    (Choice p_typedef_name p_enum ∷ []) ∷
    -- 91 type_11
    (Choice p_struct p_type_12 ∷ []) ∷
    -- 92 type_10
    (Choice p_floating_name p_type_11 ∷ []) ∷
    -- 93 type_9
    (Choice p_just_bool p_type_10 ∷ []) ∷
    -- 94 type_8
    (Choice p_just_unsigned p_type_9 ∷ []) ∷
    -- 95 type_7
    (Choice p_just_signed p_type_8 ∷ []) ∷
    -- 96 type_6
    (Choice p_just_double p_type_7 ∷ []) ∷
    -- 97 type_5
    (Choice p_just_float p_type_6 ∷ []) ∷
    -- 98 type_4
    (Choice p_just_long p_type_5 ∷ []) ∷
    -- 99 type_3
    (Choice p_just_int p_type_4 ∷ []) ∷
    -- 100 type_2
    (Choice p_just_short p_type_3 ∷ []) ∷
    -- 101 type_1
    (Choice p_just_char p_type_2 ∷ []) ∷
    -- 102 just_struct
    (Token (Keyword word_struct) ∷ []) ∷
    -- 103 just_union
    (Token (Keyword word_union) ∷ []) ∷
    -- 104 struct_tag
    (Token Identifier ∷ Choice p_members p_nothing ∷ []) ∷
    -- 105 member_1
    (Choice p_assert p_member_fields ∷ []) ∷
    -- 106 member_fields
    (Use p_specs ∷ Choice p_fields p_nothing ∷ Token (Punctuator sign_semicolon) ∷ []) ∷
    -- 107 fields
    (Use p_field ∷ Repeat p_more_fields ∷ []) ∷
    -- 108 more_fields
    (Token (Punctuator sign_comma) ∷ Use p_field ∷ []) ∷
    -- 109 width
    (Token (Punctuator sign_colon) ∷ Use p_conditional ∷ []) ∷
    -- 110 field_name
    (Use p_declarator ∷ Choice p_width p_nothing ∷ []) ∷
    -- 111 enum_tag
    (Token Identifier ∷ Choice p_enumerators p_nothing ∷ []) ∷
    -- 112 just_comma
    (Token (Punctuator sign_comma) ∷ []) ∷
    -- 113 more_enumerators
    (Token (Punctuator sign_comma) ∷ Use p_enumerator ∷ []) ∷
    -- 114 enumerator_value
    (Token (Punctuator sign_assign) ∷ Use p_conditional ∷ []) ∷
    -- 115 star
    (Token (Punctuator sign_star) ∷ Repeat p_qualifier ∷ []) ∷
    -- 116 just_ident
    (Token Identifier ∷ []) ∷
    -- 117 inner_declarator
    (Token (Punctuator sign_left_parenthesis) ∷ Use p_declarator ∷ Token (Punctuator sign_right_parenthesis) ∷ []) ∷
    -- 118 inner_abstract
    (Token (Punctuator sign_left_parenthesis) ∷ Use p_abstract ∷ Token (Punctuator sign_right_parenthesis) ∷ []) ∷
    -- 119 inner_either
    (Token (Punctuator sign_left_parenthesis) ∷ Use p_either ∷ Token (Punctuator sign_right_parenthesis) ∷ []) ∷
    -- 120 either_1
    (Choice p_inner_either p_nothing ∷ []) ∷
    -- 121 array_suffix
    (Token (Punctuator sign_left_bracket) ∷ Repeat p_array_word ∷ Choice p_any_length p_array_length
    ∷ Token (Punctuator sign_right_bracket) ∷ [])
    ∷
    -- 122 array_word
    (Choice p_just_static p_qualifier ∷ []) ∷
    -- 123 any_length
    (Token (Punctuator sign_star) ∷ []) ∷
    -- 124 array_length
    (Choice p_assignment p_nothing ∷ []) ∷
    -- 125 list_suffix
    (Token (Punctuator sign_left_parenthesis) ∷ Scope 0 ∷ Choice p_parameters p_nothing ∷ Scope 1
    ∷ Token (Punctuator sign_right_parenthesis) ∷ [])
    ∷
    -- 126 parameters
    (Use p_parameter ∷ Repeat p_more_parameters ∷ Choice p_further p_nothing ∷ []) ∷
    -- 127 more_parameters
    (Token (Punctuator sign_comma) ∷ Use p_parameter ∷ []) ∷
    -- 128 further
    (Token (Punctuator sign_comma) ∷ Token (Punctuator sign_ellipsis) ∷ []) ∷
    -- 129 braced_items
    (Token (Punctuator sign_left_brace) ∷ Use p_items ∷ Token (Punctuator sign_right_brace) ∷ []) ∷
    -- 130 some_items
    (Use p_item ∷ Repeat p_more_items ∷ Choice p_just_comma p_nothing ∷ []) ∷
    -- 131 more_items
    (Token (Punctuator sign_comma) ∷ Use p_item ∷ []) ∷
    -- 132 designators
    (Use p_designator ∷ Repeat p_designator ∷ Token (Punctuator sign_assign) ∷ []) ∷
    -- 133 member_designator
    (Token (Punctuator sign_dot) ∷ Token Identifier ∷ []) ∷
    -- 134 index_designator
    (Token (Punctuator sign_left_bracket) ∷ Use p_conditional ∷ Use p_range_end ∷ []) ∷
    -- 135 range_end
    (Token (Punctuator sign_right_bracket) ∷ []) ∷
    -- 136 block_item
    (Choice p_block_declaration p_statement ∷ []) ∷
    -- 137 block_declaration
    (Use p_declaration ∷ []) ∷
    -- 138 label
    (Token Identifier ∷ Token (Punctuator sign_colon) ∷ Use p_statement ∷ []) ∷
    -- 139 case
    (Token (Keyword word_case) ∷ Use p_conditional ∷ Use p_case_end ∷ Use p_statement ∷ []) ∷
    -- 140 case_end
    (Token (Punctuator sign_colon) ∷ []) ∷
    -- 141 default_case
    (Token (Keyword word_default) ∷ Token (Punctuator sign_colon) ∷ Use p_statement ∷ []) ∷
    -- 142 inner_statement
    (Scope 0 ∷ Use p_statement ∷ Scope 1 ∷ []) ∷
    -- 143 if_statement
    (Scope 0 ∷ Token (Keyword word_if) ∷ Token (Punctuator sign_left_parenthesis) ∷ Use p_expression
    ∷ Token (Punctuator sign_right_parenthesis) ∷ Use p_inner_statement ∷ Choice p_else_part p_nothing
    ∷ Scope 1 ∷ [])
    ∷
    -- 144 else_part
    (Token (Keyword word_else) ∷ Use p_inner_statement ∷ []) ∷
    -- 145 switch_statement
    (Scope 0 ∷ Token (Keyword word_switch) ∷ Token (Punctuator sign_left_parenthesis) ∷ Use p_expression
    ∷ Token (Punctuator sign_right_parenthesis) ∷ Use p_inner_statement ∷ Scope 1 ∷ [])
    ∷
    -- 146 while_statement
    (Scope 0 ∷ Token (Keyword word_while) ∷ Token (Punctuator sign_left_parenthesis) ∷ Use p_expression
    ∷ Token (Punctuator sign_right_parenthesis) ∷ Use p_inner_statement ∷ Scope 1 ∷ [])
    ∷
    -- 147 do_statement
    (Scope 0 ∷ Token (Keyword word_do) ∷ Use p_inner_statement ∷ Token (Keyword word_while)
    ∷ Token (Punctuator sign_left_parenthesis) ∷ Use p_expression
    ∷ Token (Punctuator sign_right_parenthesis) ∷ Token (Punctuator sign_semicolon) ∷ Scope 1 ∷ [])
    ∷
    -- 148 for_statement
    (Scope 0 ∷ Token (Keyword word_for) ∷ Token (Punctuator sign_left_parenthesis)
    ∷ Choice p_declaration p_expression_statement ∷ Choice p_expression p_nothing
    ∷ Token (Punctuator sign_semicolon) ∷ Choice p_expression p_nothing
    ∷ Token (Punctuator sign_right_parenthesis) ∷ Use p_inner_statement ∷ Scope 1 ∷ [])
    ∷
    -- 149 goto_statement
    (Token (Keyword word_goto) ∷ Token Identifier ∷ Token (Punctuator sign_semicolon) ∷ []) ∷
    -- 150 continue_statement
    (Token (Keyword word_continue) ∷ Token (Punctuator sign_semicolon) ∷ []) ∷
    -- 151 break_statement
    (Token (Keyword word_break) ∷ Token (Punctuator sign_semicolon) ∷ []) ∷
    -- 152 return_statement
    (Token (Keyword word_return) ∷ Choice p_expression p_nothing ∷ Token (Punctuator sign_semicolon) ∷ []) ∷
    -- 153 expression_statement
    (Choice p_expression p_nothing ∷ Token (Punctuator sign_semicolon) ∷ []) ∷
    -- 154 statement_12
    (Choice p_return_statement p_expression_statement ∷ []) ∷
    -- 155 statement_11
    (Choice p_break_statement p_statement_12 ∷ []) ∷
    -- 156 statement_10
    (Choice p_continue_statement p_statement_11 ∷ []) ∷
    -- 157 statement_9
    (Choice p_goto_statement p_statement_10 ∷ []) ∷
    -- 158 statement_8
    (Choice p_for_statement p_statement_9 ∷ []) ∷
    -- 159 statement_7
    (Choice p_do_statement p_statement_8 ∷ []) ∷
    -- 160 statement_6
    (Choice p_while_statement p_statement_7 ∷ []) ∷
    -- 161 statement_5
    (Choice p_switch_statement p_statement_6 ∷ []) ∷
    -- 162 statement_4
    (Choice p_if_statement p_statement_5 ∷ []) ∷
    -- 163 statement_3
    (Choice p_block p_statement_4 ∷ []) ∷
    -- 164 statement_2
    (Choice p_default_case p_statement_3 ∷ []) ∷
    -- 165 statement_1
    (Choice p_case p_statement_2 ∷ []) ∷
    -- 166 more_expressions
    (Token (Punctuator sign_comma) ∷ Use p_assignment ∷ []) ∷
    -- 167 assigned
    (Use p_assign_op ∷ Use p_assignment ∷ []) ∷
    -- 168 just_assign
    (Token (Punctuator sign_assign) ∷ []) ∷
    -- 169 just_multiply_assign
    (Token (Punctuator sign_multiply_assign) ∷ []) ∷
    -- 170 just_divide_assign
    (Token (Punctuator sign_divide_assign) ∷ []) ∷
    -- 171 just_remainder_assign
    (Token (Punctuator sign_remainder_assign) ∷ []) ∷
    -- 172 just_add_assign
    (Token (Punctuator sign_add_assign) ∷ []) ∷
    -- 173 just_subtract_assign
    (Token (Punctuator sign_subtract_assign) ∷ []) ∷
    -- 174 just_shift_left_assign
    (Token (Punctuator sign_shift_left_assign) ∷ []) ∷
    -- 175 just_shift_right_assign
    (Token (Punctuator sign_shift_right_assign) ∷ []) ∷
    -- 176 just_and_assign
    (Token (Punctuator sign_and_assign) ∷ []) ∷
    -- 177 just_xor_assign
    (Token (Punctuator sign_xor_assign) ∷ []) ∷
    -- 178 just_or_assign
    (Token (Punctuator sign_or_assign) ∷ []) ∷
    -- 179 assign_op_9
    (Choice p_just_xor_assign p_just_or_assign ∷ []) ∷
    -- 180 assign_op_8
    (Choice p_just_and_assign p_assign_op_9 ∷ []) ∷
    -- 181 assign_op_7
    (Choice p_just_shift_right_assign p_assign_op_8 ∷ []) ∷
    -- 182 assign_op_6
    (Choice p_just_shift_left_assign p_assign_op_7 ∷ []) ∷
    -- 183 assign_op_5
    (Choice p_just_subtract_assign p_assign_op_6 ∷ []) ∷
    -- 184 assign_op_4
    (Choice p_just_add_assign p_assign_op_5 ∷ []) ∷
    -- 185 assign_op_3
    (Choice p_just_remainder_assign p_assign_op_4 ∷ []) ∷
    -- 186 assign_op_2
    (Choice p_just_divide_assign p_assign_op_3 ∷ []) ∷
    -- 187 assign_op_1
    (Choice p_just_multiply_assign p_assign_op_2 ∷ []) ∷
    -- 188 assign_op
    (Choice p_just_assign p_assign_op_1 ∷ []) ∷
    -- 189 arms
    (Token (Punctuator sign_question) ∷ Use p_expression ∷ Token (Punctuator sign_colon) ∷ Use p_conditional ∷ []) ∷
    -- 190 more_logical_or
    (Token (Punctuator sign_either_or) ∷ Use p_logical_and ∷ []) ∷
    -- 191 more_logical_and
    (Token (Punctuator sign_both) ∷ Use p_inclusive_or ∷ []) ∷
    -- 192 more_inclusive_or
    (Token (Punctuator sign_bar) ∷ Use p_exclusive_or ∷ []) ∷
    -- 193 more_exclusive_or
    (Token (Punctuator sign_caret) ∷ Use p_and ∷ []) ∷
    -- 194 more_and
    (Token (Punctuator sign_ampersand) ∷ Use p_equality ∷ []) ∷
    -- 195 just_equal
    (Token (Punctuator sign_equal) ∷ []) ∷
    -- 196 just_not_equal
    (Token (Punctuator sign_not_equal) ∷ []) ∷
    -- 197 more_equality
    (Choice p_just_equal p_just_not_equal ∷ Use p_relational ∷ []) ∷
    -- 198 just_less
    (Token (Punctuator sign_less) ∷ []) ∷
    -- 199 just_greater
    (Token (Punctuator sign_greater) ∷ []) ∷
    -- 200 just_less_equal
    (Token (Punctuator sign_less_equal) ∷ []) ∷
    -- 201 just_greater_equal
    (Token (Punctuator sign_greater_equal) ∷ []) ∷
    -- 202 op_relational_2
    (Choice p_just_less_equal p_just_greater_equal ∷ []) ∷
    -- 203 op_relational_1
    (Choice p_just_greater p_op_relational_2 ∷ []) ∷
    -- 204 more_relational
    (Choice p_just_less p_op_relational_1 ∷ Use p_shift ∷ []) ∷
    -- 205 just_shift_left
    (Token (Punctuator sign_shift_left) ∷ []) ∷
    -- 206 just_shift_right
    (Token (Punctuator sign_shift_right) ∷ []) ∷
    -- 207 more_shift
    (Choice p_just_shift_left p_just_shift_right ∷ Use p_additive ∷ []) ∷
    -- 208 just_plus
    (Token (Punctuator sign_plus) ∷ []) ∷
    -- 209 just_minus
    (Token (Punctuator sign_minus) ∷ []) ∷
    -- 210 more_additive
    (Choice p_just_plus p_just_minus ∷ Use p_multiplicative ∷ []) ∷
    -- 211 just_star
    (Token (Punctuator sign_star) ∷ []) ∷
    -- 212 just_slash
    (Token (Punctuator sign_slash) ∷ []) ∷
    -- 213 just_percent
    (Token (Punctuator sign_percent) ∷ []) ∷
    -- 214 op_multiplicative_1
    (Choice p_just_slash p_just_percent ∷ []) ∷
    -- 215 more_multiplicative
    (Choice p_just_star p_op_multiplicative_1 ∷ Use p_cast ∷ []) ∷
    -- 216 typed_cast
    (Token (Punctuator sign_left_parenthesis) ∷ Use p_type_name
    ∷ Token (Punctuator sign_right_parenthesis)
    ∷ Choice p_literal_rest p_cast ∷ [])
    ∷
    -- 217 literal_rest
    (Token (Punctuator sign_left_brace) ∷ Use p_items ∷ Token (Punctuator sign_right_brace) ∷ Repeat p_post ∷ []) ∷
    -- 218 just_increment
    (Token (Punctuator sign_increment) ∷ []) ∷
    -- 219 just_decrement
    (Token (Punctuator sign_decrement) ∷ []) ∷
    -- 220 just_ampersand
    (Token (Punctuator sign_ampersand) ∷ []) ∷
    -- 221 just_tilde
    (Token (Punctuator sign_tilde) ∷ []) ∷
    -- 222 just_exclamation
    (Token (Punctuator sign_exclamation) ∷ []) ∷
    -- 223 prefix_6
    (Choice p_just_tilde p_just_exclamation ∷ []) ∷
    -- 224 prefix_5
    (Choice p_just_minus p_prefix_6 ∷ []) ∷
    -- 225 prefix_4
    (Choice p_just_plus p_prefix_5 ∷ []) ∷
    -- 226 prefix_3
    (Choice p_just_star p_prefix_4 ∷ []) ∷
    -- 227 prefix_2
    (Choice p_just_ampersand p_prefix_3 ∷ []) ∷
    -- 228 prefix_1
    (Choice p_just_decrement p_prefix_2 ∷ []) ∷
    -- 229 prefixed
    (Choice p_just_increment p_prefix_1 ∷ Use p_cast ∷ []) ∷
    -- 230 sized
    (Token (Keyword word_sizeof) ∷ Choice p_typed_size p_cast ∷ []) ∷
    -- 231 typed_size
    (Token (Punctuator sign_left_parenthesis) ∷ Use p_type_name
    ∷ Token (Punctuator sign_right_parenthesis)
    ∷ Choice p_literal_rest p_nothing ∷ [])
    ∷
    -- 232 aligned
    (Token (Keyword word_alignof) ∷ Token (Punctuator sign_left_parenthesis) ∷ Use p_type_name
    ∷ Token (Punctuator sign_right_parenthesis) ∷ [])
    ∷
    -- 233 postfixed
    (Use p_primary ∷ Repeat p_post ∷ []) ∷
    -- 234 unary_2
    (Choice p_aligned p_postfixed ∷ []) ∷
    -- 235 unary_1
    (Choice p_sized p_unary_2 ∷ []) ∷
    -- 236 index
    (Token (Punctuator sign_left_bracket) ∷ Use p_expression ∷ Token (Punctuator sign_right_bracket) ∷ []) ∷
    -- 237 call
    (Token (Punctuator sign_left_parenthesis) ∷ Choice p_arguments p_nothing
    ∷ Token (Punctuator sign_right_parenthesis) ∷ [])
    ∷
    -- 238 arguments
    (Use p_assignment ∷ Repeat p_more_expressions ∷ []) ∷
    -- 239 dot
    (Token (Punctuator sign_dot) ∷ Token Identifier ∷ []) ∷
    -- 240 arrow
    (Token (Punctuator sign_arrow) ∷ Token Identifier ∷ []) ∷
    -- 241 post_4
    (Choice p_just_increment p_just_decrement ∷ []) ∷
    -- 242 post_3
    (Choice p_arrow p_post_4 ∷ []) ∷
    -- 243 post_2
    (Choice p_dot p_post_3 ∷ []) ∷
    -- 244 post_1
    (Choice p_call p_post_2 ∷ []) ∷
    -- 245 texts
    (Token Text ∷ Repeat p_just_text ∷ []) ∷
    -- 246 enclosed
    (Token (Punctuator sign_left_parenthesis) ∷ Use p_expression ∷ Token (Punctuator sign_right_parenthesis) ∷ []) ∷
    -- 247 just_integer
    (Token Integer ∷ []) ∷
    -- 248 just_character
    (Token Character ∷ []) ∷
    -- 249 primary_3
    (Choice p_texts p_enclosed ∷ []) ∷
    -- 250 primary_2
    (Choice p_just_character p_primary_3 ∷ []) ∷
    -- 251 primary_1
    (Choice p_just_integer p_primary_2 ∷ []) ∷
    -- 252 list_call
    (Choice p_list_pair_call p_list_call_1 ∷ []) ∷
    -- 253 list_pair_call
    (Token Identifier ∷ Token (Punctuator sign_left_parenthesis) ∷ Use p_assignment ∷ Token (Punctuator sign_comma)
    ∷ Use p_assignment ∷ Token (Punctuator sign_right_parenthesis) ∷ []) ∷
    -- 254 list_argument_call
    (Token Identifier ∷ Token (Punctuator sign_left_parenthesis) ∷ Use p_assignment ∷ Token (Punctuator sign_comma)
    ∷ Use p_type_name ∷ Token (Punctuator sign_right_parenthesis) ∷ []) ∷
    -- 255 list_end_call
    (Token Identifier ∷ Token (Punctuator sign_left_parenthesis) ∷ Use p_assignment
    ∷ Token (Punctuator sign_right_parenthesis) ∷ []) ∷
    -- 256 list_call_1
    (Choice p_list_argument_call p_list_end_call ∷ []) ∷
    -- 257 named_primary
    (Choice p_just_ident p_primary_1 ∷ []) ∷
    []

-- the items of a production's row, and the item at a place of it
unfoldable pub row : ℕ → List Item
row production = slice_index_or table production []

unfoldable pub item_of : ℕ → ℕ → Option Item
item_of production at = slice_get (row production) at
