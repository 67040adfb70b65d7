pub use Rattle.c_grammar.specs.Words.{word_static, sign_star, sign_left_bracket, sign_ellipsis, word_extern}
pub use Rattle.c_grammar.specs.Words.{word_inline, word_sizeof, word_alignof, sign_assign, sign_left_parenthesis}
pub use Rattle.c_grammar.specs.Words.{sign_dot, sign_arrow, sign_increment, sign_decrement, sign_ampersand}
pub use Rattle.c_grammar.specs.Words.{sign_plus, sign_minus, sign_tilde, sign_exclamation, sign_left_brace}
pub use Rattle.c_grammar.specs.Words.{sign_multiply_assign, sign_divide_assign, sign_remainder_assign}
pub use Rattle.c_grammar.specs.Words.{sign_add_assign, sign_subtract_assign, sign_shift_left_assign}
pub use Rattle.c_grammar.specs.Words.{sign_shift_right_assign, sign_and_assign, sign_xor_assign, sign_or_assign}
pub use Rattle.c_grammar.specs.Words.{sign_slash, sign_percent, sign_shift_left, sign_shift_right, sign_less}
pub use Rattle.c_grammar.specs.Words.{sign_greater, sign_less_equal, sign_greater_equal, sign_equal, sign_not_equal}
pub use Rattle.c_grammar.specs.Words.{sign_caret, sign_bar, sign_both, sign_either_or, sign_comma, sign_colon}
pub use Rattle.c_grammar.specs.Words.{word_auto, word_register, word_void, word_bool, word_float, word_double}
pub use Rattle.c_grammar.specs.Words.{word_char, word_short, word_long, word_signed, word_unsigned, word_case}
pub use Rattle.c_grammar.specs.Words.{word_default, word_if, word_switch, word_while, word_do, word_for, word_goto}
pub use Rattle.c_grammar.specs.Words.{word_continue, word_break, word_return, sign_semicolon, word_union}
