-- What a case's equation computes through.
use Rattle.c_mentions.specs.Mentions.{is_type_word, is_list_word, is_function_name, is_exempt, name_used, declarator_mention, enumerator_mention, end_mention, mention_at}
use Rattle.c_mentions.specs.Symbols.{symbol_of}
use Rattle.c_mentions.specs.Declarators.{inner_of, name_of, has_star, is_list, derivation_of, declarator}
use Rattle.c_mentions.specs.Roles.{begins_with, begins_with_name, has_storage, named_type, type_name, has_no_declarator, list_of, specified, in_declaration, in_type, in_struct, in_enum, selects, in_statement, handed, opened, is_body}
use Rattle.c_scope.specs.Resolves.{happenings, bindings}
use Rattle.c_senses.specs.Names.{names_of}
use Rattle.c_grammar.specs.Terminals.{own_words}
use Rattle.c_lexer.specs.Bytes.{is_digit, is_octal_digit, is_hexadecimal_digit, digit_value}
use Rattle.c_lexer.specs.Numbers.{value_on, begins_hexadecimal}
use Rattle.std.specs.Fmt.{digits}

unfoldable pub computing : Unit {0}
unfolding is_type_word is_list_word is_function_name is_exempt name_used declarator_mention enumerator_mention end_mention mention_at symbol_of inner_of name_of has_star is_list derivation_of declarator begins_with begins_with_name has_storage named_type type_name has_no_declarator list_of specified in_declaration in_type in_struct in_enum selects in_statement handed opened is_body happenings bindings names_of own_words is_digit is_octal_digit is_hexadecimal_digit digit_value value_on begins_hexadecimal digits
computing = tt
