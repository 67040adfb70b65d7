-- The positions of the words and signs that the grammar speaks of, each beside its spelling.
use Rattle.std.specs.Prelude.{ℕ, List, [], ◌∷◌, codes}

abbrev pub word_auto : ℕ
word_auto = 0

abbrev pub word_break : ℕ
word_break = 1

abbrev pub word_case : ℕ
word_case = 2

abbrev pub word_char : ℕ
word_char = 3

abbrev pub word_const : ℕ
word_const = 4

abbrev pub word_continue : ℕ
word_continue = 5

abbrev pub word_default : ℕ
word_default = 6

abbrev pub word_do : ℕ
word_do = 7

abbrev pub word_double : ℕ
word_double = 8

abbrev pub word_else : ℕ
word_else = 9

abbrev pub word_enum : ℕ
word_enum = 10

abbrev pub word_extern : ℕ
word_extern = 11

abbrev pub word_float : ℕ
word_float = 12

abbrev pub word_for : ℕ
word_for = 13

abbrev pub word_goto : ℕ
word_goto = 14

abbrev pub word_if : ℕ
word_if = 15

abbrev pub word_inline : ℕ
word_inline = 16

abbrev pub word_int : ℕ
word_int = 17

abbrev pub word_long : ℕ
word_long = 18

abbrev pub word_register : ℕ
word_register = 19

abbrev pub word_restrict : ℕ
word_restrict = 20

abbrev pub word_return : ℕ
word_return = 21

abbrev pub word_short : ℕ
word_short = 22

abbrev pub word_signed : ℕ
word_signed = 23

abbrev pub word_sizeof : ℕ
word_sizeof = 24

abbrev pub word_static : ℕ
word_static = 25

abbrev pub word_struct : ℕ
word_struct = 26

abbrev pub word_switch : ℕ
word_switch = 27

abbrev pub word_typedef : ℕ
word_typedef = 28

abbrev pub word_union : ℕ
word_union = 29

abbrev pub word_unsigned : ℕ
word_unsigned = 30

abbrev pub word_void : ℕ
word_void = 31

abbrev pub word_volatile : ℕ
word_volatile = 32

abbrev pub word_while : ℕ
word_while = 33

abbrev pub word_alignas : ℕ
word_alignas = 34

abbrev pub word_alignof : ℕ
word_alignof = 35

abbrev pub word_atomic : ℕ
word_atomic = 36

abbrev pub word_bool : ℕ
word_bool = 37

abbrev pub word_complex : ℕ
word_complex = 38

abbrev pub word_generic : ℕ
word_generic = 39

abbrev pub word_imaginary : ℕ
word_imaginary = 40

abbrev pub word_noreturn : ℕ
word_noreturn = 41

abbrev pub word_static_assert : ℕ
word_static_assert = 42

abbrev pub word_thread_local : ℕ
word_thread_local = 43

abbrev pub word_asm : ℕ
word_asm = 44

abbrev pub sign_left_bracket : ℕ
sign_left_bracket = 0

abbrev pub sign_right_bracket : ℕ
sign_right_bracket = 1

abbrev pub sign_left_parenthesis : ℕ
sign_left_parenthesis = 2

abbrev pub sign_right_parenthesis : ℕ
sign_right_parenthesis = 3

abbrev pub sign_left_brace : ℕ
sign_left_brace = 4

abbrev pub sign_right_brace : ℕ
sign_right_brace = 5

abbrev pub sign_dot : ℕ
sign_dot = 6

abbrev pub sign_arrow : ℕ
sign_arrow = 7

abbrev pub sign_increment : ℕ
sign_increment = 8

abbrev pub sign_decrement : ℕ
sign_decrement = 9

abbrev pub sign_ampersand : ℕ
sign_ampersand = 10

abbrev pub sign_star : ℕ
sign_star = 11

abbrev pub sign_plus : ℕ
sign_plus = 12

abbrev pub sign_minus : ℕ
sign_minus = 13

abbrev pub sign_tilde : ℕ
sign_tilde = 14

abbrev pub sign_exclamation : ℕ
sign_exclamation = 15

abbrev pub sign_slash : ℕ
sign_slash = 16

abbrev pub sign_percent : ℕ
sign_percent = 17

abbrev pub sign_shift_left : ℕ
sign_shift_left = 18

abbrev pub sign_shift_right : ℕ
sign_shift_right = 19

abbrev pub sign_less : ℕ
sign_less = 20

abbrev pub sign_greater : ℕ
sign_greater = 21

abbrev pub sign_less_equal : ℕ
sign_less_equal = 22

abbrev pub sign_greater_equal : ℕ
sign_greater_equal = 23

abbrev pub sign_equal : ℕ
sign_equal = 24

abbrev pub sign_not_equal : ℕ
sign_not_equal = 25

abbrev pub sign_caret : ℕ
sign_caret = 26

abbrev pub sign_bar : ℕ
sign_bar = 27

abbrev pub sign_both : ℕ
sign_both = 28

abbrev pub sign_either_or : ℕ
sign_either_or = 29

abbrev pub sign_question : ℕ
sign_question = 30

abbrev pub sign_colon : ℕ
sign_colon = 31

abbrev pub sign_semicolon : ℕ
sign_semicolon = 32

abbrev pub sign_ellipsis : ℕ
sign_ellipsis = 33

abbrev pub sign_assign : ℕ
sign_assign = 34

abbrev pub sign_multiply_assign : ℕ
sign_multiply_assign = 35

abbrev pub sign_divide_assign : ℕ
sign_divide_assign = 36

abbrev pub sign_remainder_assign : ℕ
sign_remainder_assign = 37

abbrev pub sign_add_assign : ℕ
sign_add_assign = 38

abbrev pub sign_subtract_assign : ℕ
sign_subtract_assign = 39

abbrev pub sign_shift_left_assign : ℕ
sign_shift_left_assign = 40

abbrev pub sign_shift_right_assign : ℕ
sign_shift_right_assign = 41

abbrev pub sign_and_assign : ℕ
sign_and_assign = 42

abbrev pub sign_xor_assign : ℕ
sign_xor_assign = 43

abbrev pub sign_or_assign : ℕ
sign_or_assign = 44

abbrev pub sign_comma : ℕ
sign_comma = 45

abbrev pub sign_hash : ℕ
sign_hash = 46

abbrev pub sign_double_hash : ℕ
sign_double_hash = 47

-- the words as they are written, each with the position that the grammar gives it
abbrev pub written_words : List (List ℕ × ℕ)
written_words =
    (codes "auto", word_auto) ∷
    (codes "break", word_break) ∷
    (codes "case", word_case) ∷
    (codes "char", word_char) ∷
    (codes "const", word_const) ∷
    (codes "continue", word_continue) ∷
    (codes "default", word_default) ∷
    (codes "do", word_do) ∷
    (codes "double", word_double) ∷
    (codes "else", word_else) ∷
    (codes "enum", word_enum) ∷
    (codes "extern", word_extern) ∷
    (codes "float", word_float) ∷
    (codes "for", word_for) ∷
    (codes "goto", word_goto) ∷
    (codes "if", word_if) ∷
    (codes "inline", word_inline) ∷
    (codes "int", word_int) ∷
    (codes "long", word_long) ∷
    (codes "register", word_register) ∷
    (codes "restrict", word_restrict) ∷
    (codes "return", word_return) ∷
    (codes "short", word_short) ∷
    (codes "signed", word_signed) ∷
    (codes "sizeof", word_sizeof) ∷
    (codes "static", word_static) ∷
    (codes "struct", word_struct) ∷
    (codes "switch", word_switch) ∷
    (codes "typedef", word_typedef) ∷
    (codes "union", word_union) ∷
    (codes "unsigned", word_unsigned) ∷
    (codes "void", word_void) ∷
    (codes "volatile", word_volatile) ∷
    (codes "while", word_while) ∷
    (codes "_Alignas", word_alignas) ∷
    (codes "_Alignof", word_alignof) ∷
    (codes "_Atomic", word_atomic) ∷
    (codes "_Bool", word_bool) ∷
    (codes "_Complex", word_complex) ∷
    (codes "_Generic", word_generic) ∷
    (codes "_Imaginary", word_imaginary) ∷
    (codes "_Noreturn", word_noreturn) ∷
    (codes "_Static_assert", word_static_assert) ∷
    (codes "_Thread_local", word_thread_local) ∷
    (codes "asm", word_asm) ∷
    []

-- the signs as they are written
abbrev pub written_signs : List (List ℕ × ℕ)
written_signs =
    (codes "[", sign_left_bracket) ∷
    (codes "]", sign_right_bracket) ∷
    (codes "(", sign_left_parenthesis) ∷
    (codes ")", sign_right_parenthesis) ∷
    (codes "{", sign_left_brace) ∷
    (codes "}", sign_right_brace) ∷
    (codes ".", sign_dot) ∷
    (codes "->", sign_arrow) ∷
    (codes "++", sign_increment) ∷
    (codes "--", sign_decrement) ∷
    (codes "&", sign_ampersand) ∷
    (codes "*", sign_star) ∷
    (codes "+", sign_plus) ∷
    (codes "-", sign_minus) ∷
    (codes "~", sign_tilde) ∷
    (codes "!", sign_exclamation) ∷
    (codes "/", sign_slash) ∷
    (codes "%", sign_percent) ∷
    (codes "<<", sign_shift_left) ∷
    (codes ">>", sign_shift_right) ∷
    (codes "<", sign_less) ∷
    (codes ">", sign_greater) ∷
    (codes "<=", sign_less_equal) ∷
    (codes ">=", sign_greater_equal) ∷
    (codes "==", sign_equal) ∷
    (codes "!=", sign_not_equal) ∷
    (codes "^", sign_caret) ∷
    (codes "|", sign_bar) ∷
    (codes "&&", sign_both) ∷
    (codes "||", sign_either_or) ∷
    (codes "?", sign_question) ∷
    (codes ":", sign_colon) ∷
    (codes ";", sign_semicolon) ∷
    (codes "...", sign_ellipsis) ∷
    (codes "=", sign_assign) ∷
    (codes "*=", sign_multiply_assign) ∷
    (codes "/=", sign_divide_assign) ∷
    (codes "%=", sign_remainder_assign) ∷
    (codes "+=", sign_add_assign) ∷
    (codes "-=", sign_subtract_assign) ∷
    (codes "<<=", sign_shift_left_assign) ∷
    (codes ">>=", sign_shift_right_assign) ∷
    (codes "&=", sign_and_assign) ∷
    (codes "^=", sign_xor_assign) ∷
    (codes "|=", sign_or_assign) ∷
    (codes ",", sign_comma) ∷
    (codes "#", sign_hash) ∷
    (codes "##", sign_double_hash) ∷
    []
