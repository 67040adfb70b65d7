-- The tests of choices and repetitions. Most look at the next token alone; others at two, or at what the production
-- has read so far.
use Rattle.std.specs.Prelude.{ℕ, ◌+◌, ◌==◌, ◌/◌, ◌%◌, ◌^◌, Bool, true, false, ◌&&◌, ◌||◌, not, nat_le, nat_lt}
use Rattle.std.specs.Prelude.{Option, Some, None, List, [], ◌∷◌, ◌++◌, if◌then◌else◌}
use Rattle.std.specs.List.{list_any, list_all}
use Rattle.c_grammar.specs.declared.notes.Shape.{Shape}
use Rattle.c_grammar.specs.declared.notes.Shape.TheVariants.{Nameless, Bare, Listed, Function, Other}
use Rattle.c_grammar.specs.First.{firsts, can_be_empty}
use Rattle.c_grammar.specs.Terminals.{contains, sign, identifiers, type_name, floating_type, typeof_name}
use Rattle.c_grammar.specs.Terminals.{builtin_type}
use Rattle.c_grammar.specs.Notes.{Noted}
use Rattle.c_grammar.specs.Words.{word_bool, word_char, word_double, word_enum, word_float, word_int, word_long}
use Rattle.c_grammar.specs.Words.{word_short, word_signed, word_struct, word_union, word_unsigned, word_void}
use Rattle.c_grammar.specs.Words.{sign_colon, sign_comma, sign_ellipsis, sign_left_brace, sign_left_parenthesis}
use Rattle.c_grammar.specs.Words.{sign_right_brace, sign_right_bracket, sign_right_parenthesis, sign_star}
use Rattle.c_grammar.specs.Productions.{p_storage, p_function, p_qualifier, p_align, p_type, p_assert, p_any_length}
use Rattle.c_grammar.specs.Productions.{p_block_declaration, p_body, p_early, p_inner_abstract, p_inner_either}
use Rattle.c_grammar.specs.Productions.{p_label, p_later, p_more_enumerators, p_more_items, p_more_parameters}
use Rattle.c_grammar.specs.Productions.{p_more_type, p_typed_cast, p_typed_size}

-- whether a set of terminals, a bit for each, has one
unfoldable pub has : ℕ → ℕ → Bool
has set terminal = nat_lt terminal 128 && set / 2 ^ terminal % 2 == 1

-- whether a production begins with a terminal
unfoldable pub begins : ℕ → ℕ → Bool
begins production terminal = nat_lt production 258 && contains (firsts production) terminal

-- a token starts a type where it is a type word, struct, union, enum, a typedef name, typeof, a qualifier or
-- _Alignas
unfoldable pub types : List ℕ
types = firsts p_type ++ (firsts p_qualifier ++ firsts p_align)

-- it starts a declaration where it starts a type or is a storage or function word or _Static_assert
unfoldable pub declarations : List ℕ
declarations = types ++ (firsts p_storage ++ (firsts p_function ++ firsts p_assert))

unfoldable pub starts_type : ℕ → Bool
starts_type terminal = contains types terminal

unfoldable pub starts_declaration : ℕ → Bool
starts_declaration terminal = contains declarations terminal

-- The lists of type words that make a type (C11 6.7.2p2), each line with all words that may be left out; the names
-- of floating types stand alone, and _Complex is refused.
unfoldable pub type_words : List (List ℕ)
type_words =
    (word_void ∷ []) ∷
    (word_char ∷ []) ∷
    (word_signed ∷ word_char ∷ []) ∷
    (word_unsigned ∷ word_char ∷ []) ∷
    (word_signed ∷ word_short ∷ word_int ∷ []) ∷
    (word_unsigned ∷ word_short ∷ word_int ∷ []) ∷
    (word_signed ∷ word_int ∷ []) ∷
    (word_unsigned ∷ word_int ∷ []) ∷
    (word_signed ∷ word_long ∷ word_int ∷ []) ∷
    (word_unsigned ∷ word_long ∷ word_int ∷ []) ∷
    (word_signed ∷ word_long ∷ word_long ∷ word_int ∷ []) ∷
    (word_unsigned ∷ word_long ∷ word_long ∷ word_int ∷ []) ∷
    (word_float ∷ []) ∷
    (word_double ∷ []) ∷
    (word_long ∷ word_double ∷ []) ∷
    (word_bool ∷ []) ∷
    (floating_type ∷ []) ∷
    (word_struct ∷ []) ∷
    (word_union ∷ []) ∷
    (word_enum ∷ []) ∷
    (type_name ∷ []) ∷
    (builtin_type ∷ []) ∷
    []

-- how often a word stands in a list
abbrev pub times : ℕ → List ℕ → ℕ
times word [] = 0
times word (w ∷ words) = if w == word then 1 + times word words else times word words

-- the words are part of a list: none stands more often in them than in it
abbrev pub is_part_of : List ℕ → List ℕ → Bool
is_part_of words list = list_all (λ w. nat_le (times w words) (times w list)) words

-- a type word goes on after others where they are together part of one of the lists
unfoldable pub combines : List ℕ → ℕ → Bool
combines words word = list_any (is_part_of (word ∷ words)) type_words

-- a parenthesis opens an inner abstract declarator where neither its partner nor a type is behind it
abbrev pub opens_inner : ℕ → ℕ → Bool
opens_inner first second =
    first == sign sign_left_parenthesis && not (second == sign sign_right_parenthesis) && not (starts_type second)

abbrev pub opens_type : ℕ → ℕ → Bool
opens_type first second = first == sign sign_left_parenthesis && starts_type second

-- a repetition behind a comma ends where a closing brace or an ellipsis follows the comma
abbrev pub goes_on : ℕ → ℕ → Bool
goes_on first second =
    first == sign sign_comma && not (second == sign sign_right_brace) && not (second == sign sign_ellipsis)

-- a further specifier: typeof is refused there, and a type word has to combine with those before it
abbrev pub is_specifier : ℕ → List ℕ → Bool
is_specifier first words =
    begins p_early first || first == typeof_name || (begins p_more_type first && combines words first)

abbrev pub is_function : Shape → Bool
is_function Nameless = false
is_function Bare = false
is_function Listed = false
is_function Function = true
is_function Other = false

-- whether a production is taken where it is an alternative or may be repeated
unfoldable pub fits : ℕ → ℕ → ℕ → Noted → Bool
fits production first second notes =
    if production == p_inner_abstract || production == p_inner_either then opens_inner first second
    else if production == p_typed_cast || production == p_typed_size then opens_type first second
    else if production == p_block_declaration then starts_declaration first && not (second == sign sign_colon)
    else if production == p_label then contains (identifiers p_label) first && second == sign sign_colon
    else if production == p_more_enumerators || production == p_more_items
    || production == p_more_parameters then goes_on first second
    else if production == p_any_length then first == sign sign_star && second == sign sign_right_bracket
    else if production == p_body then first == sign sign_left_brace && is_function notes.shape
    else if production == p_later then is_specifier first notes.words
    else begins production first

-- the alternative that is taken: the first one whose test fits, where the last one also fits if it can be empty
unfoldable pub chosen : ℕ → ℕ → ℕ → ℕ → Noted → Option ℕ
chosen one other first second notes =
    if fits one first second notes then Some one
    else if fits other first second notes || can_be_empty other then Some other
    else None
