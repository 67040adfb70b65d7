-- What the grammar sees of a token: a terminal. It is the token's kind; of an identifier also whether it is a
-- typedef name or a word with a meaning of its own, and of a literal whether it is one that is refused.
use Rattle.std.specs.Prelude.{ℕ, ◌+◌, ◌==◌, Bool, true, false, ◌&&◌, ◌||◌, not, nat_le, Option, Some, None, List}
use Rattle.std.specs.Prelude.{[], ◌∷◌, codes, slice_get, slice_index_or, slice_range, take, drop, length}
use Rattle.std.specs.Prelude.{if◌then◌else◌}
use Rattle.std.specs.Option.{unwrap_or}
use Rattle.std.specs.Str.{bytes_eq}
use Rattle.c_lexer.specs.declared.Token.{Token}
use Rattle.c_lexer.specs.declared.TokenKind.{TokenKind}
use Rattle.c_lexer.specs.declared.TokenKind.TheVariants.{Identifier, Keyword, Punctuator, Integer, Floating}
use Rattle.c_lexer.specs.declared.TokenKind.TheVariants.{Character, Text, End}
use Rattle.c_grammar.specs.Names.{Names, is_type}
use Rattle.c_grammar.specs.Productions.{p_floating_name, p_typedef_name, p_list_pair_call, p_list_argument_call}
use Rattle.c_grammar.specs.Productions.{p_list_end_call}

abbrev pub contains : List ℕ → ℕ → Bool
contains [] x = false
contains (y ∷ ys) x = (y == x) || contains ys x

-- The terminals by their numbers, which are below 128. Keywords are 0 to 44 and punctuators 45 to 92.
abbrev pub sign : ℕ → ℕ
sign position = 45 + position

-- an identifier without a meaning of its own
abbrev pub plain_name : ℕ
plain_name = 93

abbrev pub type_name : ℕ
type_name = 94

-- the name of a floating type, a type word
abbrev pub floating_type : ℕ
floating_type = 95

abbrev pub typeof_name : ℕ
typeof_name = 96

-- a name that begins with __builtin_ and stands for no operation on lists, and one that is also a typedef name
abbrev pub builtin_name : ℕ
builtin_name = 97

abbrev pub builtin_type : ℕ
builtin_type = 108

abbrev pub integer : ℕ
integer = 98

abbrev pub floating : ℕ
floating = 99

abbrev pub character : ℕ
character = 100

abbrev pub string : ℕ
string = 101

abbrev pub unit_end : ℕ
unit_end = 102

-- behind the last token
abbrev pub nothing : ℕ
nothing = 103

abbrev pub wide_literal : ℕ
wide_literal = 104

-- a character constant of several characters
abbrev pub long_character : ℕ
long_character = 105

abbrev pub wide_integer : ℕ
wide_integer = 106

abbrev pub thread_word : ℕ
thread_word = 107

-- the bytes of a token, or none where it is no part of the text
abbrev pub bytes_between : List ℕ → ℕ → ℕ → List ℕ
bytes_between text start end =
    if nat_le start end && nat_le end (length text) then slice_range text start end else []

abbrev pub spelled : List ℕ → Token → List ℕ
spelled text t = bytes_between text t.start t.end

-- the names that stand for operations on variadic lists (C11 7.16.1): two that are called with two expressions, one
-- with an expression and a type, and one with an expression
abbrev pub list_pair : ℕ
list_pair = 109

abbrev pub list_argument : ℕ
list_argument = 110

abbrev pub list_end : ℕ
list_end = 111

abbrev pub list_names : List ℕ
list_names = list_pair ∷ list_argument ∷ list_end ∷ []

unfoldable pub list_words : List (List ℕ × ℕ)
list_words =
    (codes "__builtin_va_start", list_pair) ∷
    (codes "__builtin_va_copy", list_pair) ∷
    (codes "__builtin_va_arg", list_argument) ∷
    (codes "__builtin_va_end", list_end) ∷
    []

-- the words that are identifiers to the lexer and have a meaning of their own here
unfoldable pub own_words : List (List ℕ × ℕ)
own_words =
    (codes "__int128", wide_integer) ∷
    (codes "__thread", thread_word) ∷
    (codes "typeof", typeof_name) ∷
    (codes "__typeof", typeof_name) ∷
    (codes "__typeof__", typeof_name) ∷
    (codes "_Float32", floating_type) ∷
    (codes "_Float64", floating_type) ∷
    (codes "_Float128", floating_type) ∷
    (codes "_Float32x", floating_type) ∷
    (codes "_Float64x", floating_type) ∷
    []

abbrev pub own_meaning : List (List ℕ × ℕ) → List ℕ → Option ℕ
own_meaning [] name = None
own_meaning (w ∷ words) name = if bytes_eq name w.0 then Some w.1 else own_meaning words name

abbrev pub is_builtin : List ℕ → Bool
is_builtin name = bytes_eq (take 10 name) (codes "__builtin_")

-- the terminal of an identifier
unfoldable pub name_terminal : Names → List ℕ → ℕ
name_terminal names name =
    unwrap_or (own_meaning own_words name)
    (if is_builtin name
    then (if is_type names name then builtin_type else unwrap_or (own_meaning list_words name) builtin_name)
    else (if is_type names name then type_name else plain_name))

abbrev pub byte_at : List ℕ → ℕ → ℕ
byte_at text at = slice_index_or text at 0

-- a literal is wide where it begins with L, U or u (C11 6.4.4.4, 6.4.5), but u8 makes a plain string
unfoldable pub is_wide : List ℕ → Bool
is_wide text =
    (byte_at text 0 == 76) || (byte_at text 0 == 85) || ((byte_at text 0 == 117) && not (byte_at text 1 == 56))

abbrev pub is_octal : ℕ → Bool
is_octal c = nat_le 48 c && nat_le c 55

abbrev pub is_hexadecimal : ℕ → Bool
is_hexadecimal c = (nat_le 48 c && nat_le c 57) || (nat_le 65 c && nat_le c 70) || (nat_le 97 c && nat_le c 102)

-- how many of the first bytes pass a test
abbrev pub leading : (ℕ → Bool) → List ℕ → ℕ
leading test [] = 0
leading test (c ∷ cs) = if test c then 1 + leading test cs else 0

-- how many bytes the first character within quotes has: one, or those of an escape, which is a backslash with up to
-- three octal digits, with x and all hexadecimal digits that follow, or with one byte (C11 6.4.4.4)
unfoldable pub character_length : List ℕ → ℕ
character_length text =
    if not (byte_at text 0 == 92) then 1
    else if byte_at text 1 == 120 then 2 + leading is_hexadecimal (drop 2 text)
    else if is_octal (byte_at text 1) then 1 + leading is_octal (take 3 (drop 1 text))
    else 2

-- whether a character constant with its quotes has one character
unfoldable pub has_one_character : List ℕ → Bool
has_one_character text = character_length (drop 1 text) + 2 == length text

-- the terminal of a token of each kind, by its bytes
abbrev pub terminal_of_kind : TokenKind → Names → List ℕ → ℕ
terminal_of_kind Identifier names bytes = name_terminal names bytes
terminal_of_kind (Keyword k) names bytes = k
terminal_of_kind (Punctuator p) names bytes = sign p
terminal_of_kind Integer names bytes = integer
terminal_of_kind Floating names bytes = floating
terminal_of_kind Character names bytes =
    if is_wide bytes then wide_literal else if has_one_character bytes then character else long_character
terminal_of_kind Text names bytes = if is_wide bytes then wide_literal else string
terminal_of_kind End names bytes = unit_end

abbrev pub terminal_of : List ℕ → Names → Option Token → ℕ
terminal_of text names None = nothing
terminal_of text names (Some t) = terminal_of_kind t.kind names (spelled text t)

-- the terminal of the token at a place
unfoldable pub terminal : List ℕ → List Token → Names → ℕ → ℕ
terminal text tokens names place = terminal_of text names (slice_get tokens place)

-- the name of an operation on variadic lists, by its row
abbrev pub list_name : ℕ → ℕ
list_name production =
    if production == p_list_pair_call then list_pair
    else if production == p_list_argument_call then list_argument
    else list_end

-- the terminals that an item takes. An identifier is any name but a floating type's, which is a type word and
-- nothing else; the two rows for names that are types take these alone, and so do those for operations on lists.
abbrev pub identifiers : ℕ → List ℕ
identifiers production =
    elim (production == p_floating_name) [
      | true ↦ floating_type ∷ []
      | false ↦
          elim (production == p_typedef_name) [
            | true ↦ type_name ∷ builtin_type ∷ []
            | false ↦
                elim (nat_le p_list_pair_call production && nat_le production p_list_end_call) [
                  | true ↦ list_name production ∷ []
                  | false ↦ plain_name ∷ type_name ∷ typeof_name ∷ builtin_name ∷ (builtin_type ∷ list_names)
                ]
          ]
    ]

abbrev pub terminals : ℕ → TokenKind → List ℕ
terminals production Identifier = identifiers production
terminals production (Keyword k) = k ∷ []
terminals production (Punctuator p) = sign p ∷ []
terminals production Integer = integer ∷ []
terminals production Floating = floating ∷ []
terminals production Character = character ∷ []
terminals production Text = string ∷ []
terminals production End = unit_end ∷ []

-- whether an item of a production's row takes a token of this terminal
unfoldable pub takes : ℕ → TokenKind → ℕ → Bool
takes production kind t = not (t == nothing) && contains (terminals production kind) t
