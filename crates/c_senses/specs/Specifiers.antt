-- Specifiers of declarations (C11 6.7.1 to 6.7.5).
use Rattle.std.specs.Prelude.{ℕ, suc, ◌==◌, Bool, true, false, ◌&&◌, ◌||◌, not, nat_le, List, [], ◌∷◌, length}
use Rattle.std.specs.Prelude.{Option, Some, None, is_some, if◌then◌else◌}
use Rattle.c_scope.specs.passed.pta_base.declared.kind.Kind.TheVariants.{Operand}
use Rattle.c_inits.specs.passed.c_grammar.PassedOn.{TokenKind}
use Rattle.c_inits.specs.passed.c_grammar.PassedOn.{Keyword}
use Rattle.c_inits.specs.passed.c_types.Trees.{Ctype, VoidType, BoolType, IntegerType, FloatingType, VaListType}
use Rattle.c_consts.specs.passed.core_tree.Rows.{int, long, character}
use Rattle.c_inits.specs.passed.c_grammar.Terminals.{contains, own_meaning, own_words}
use Rattle.c_inits.specs.passed.c_grammar.Productions.{p_external, p_declaration, p_storage, p_function, p_type}
use Rattle.c_inits.specs.passed.c_grammar.Productions.{p_declarator, p_parameter}
use Rattle.c_inits.specs.passed.c_grammar.Words.{word_auto, word_register, word_void, word_bool, word_float}
use Rattle.c_inits.specs.passed.c_grammar.Words.{word_double, word_char, word_short, word_long, word_signed}
use Rattle.c_inits.specs.passed.c_grammar.Words.{word_unsigned}
use Rattle.c_senses.specs.Tree.{Source, is_a, is_leaf, kind_at, spelling_at, word_at, last_where, all_where}
use Rattle.c_senses.specs.Tree.{child_of, parent_of}
use Rattle.c_senses.specs.Given.{Given, Fits, Refuses, ◌>>=◌, given_if}
use Rattle.c_senses.specs.World.{World, Meaning, TypeName, has_size}
use Rattle.c_senses.specs.Literals.{unsigned_int, unsigned_long, long_long, unsigned_long_long}
use Rattle.c_senses.specs.Constants.{constant_in}
use Rattle.c_senses.specs.Sense.{Sense, Nothing, IsType, IsSpecified}

abbrev pub counted : List ℕ → ℕ → ℕ
counted [] word = 0
counted (x ∷ xs) word = if x == word then suc (counted xs word) else counted xs word

-- 6.7.2p2: the integer type that type words name, in any order
abbrev pub short_type : Bool → Ctype
short_type unsigned = IntegerType 2 3 (not unsigned)

abbrev pub char_type : List ℕ → Ctype
char_type words =
    if contains words word_unsigned then IntegerType 1 2 false
    else (if contains words word_signed then IntegerType 1 2 true else character)

abbrev pub long_types : Bool → ℕ → Ctype
long_types unsigned longs =
    if longs == 0 then (if unsigned then unsigned_int else int)
    else if longs == 1 then (if unsigned then unsigned_long else long)
    else if unsigned then unsigned_long_long
    else long_long

-- the type of type words; every floating type is one
abbrev pub type_of_words : List ℕ → Ctype
type_of_words words =
    if contains words word_void then VoidType
    else if contains words word_bool then BoolType
    else if contains words word_float || contains words word_double then FloatingType
    else if contains words word_char then char_type words
    else if contains words word_short then short_type (contains words word_unsigned)
    else long_types (contains words word_unsigned) (counted words word_long)

abbrev pub is_word_kind : TokenKind → Bool
is_word_kind (Keyword k) = true
is_word_kind kind = false

-- the keywords of some nodes
abbrev pub with_word : Option ℕ → List ℕ → List ℕ
with_word None rest = rest
with_word (Some word) rest = word ∷ rest

abbrev pub words_at : Source → List ℕ → List ℕ
words_at s [] = []
words_at s (c ∷ rest) = with_word (word_at s c) (words_at s rest)

-- the storage words, and the words for functions, of specifiers
abbrev pub storage_words : Source → List ℕ → List ℕ
storage_words s children = words_at s (all_where (is_a s p_storage) children)

abbrev pub function_words : Source → List ℕ → List ℕ
function_words s children = words_at s (all_where (is_a s p_function) children)

-- where specifiers stand
abbrev pub stands_in : Source → ℕ → ℕ → Bool
stands_in s production i = elim (parent_of s i) [ None ↦ false | Some p ↦ is_a s production p ]

abbrev pub has_declarator : Source → ℕ → Bool
has_declarator s i = elim (parent_of s i) [ None ↦ false | Some p ↦ is_some (child_of s p_declarator p) ]

-- 6.7.1, 6.7.4: at most one storage word; none of auto and register at file scope; none in a member or a type name,
-- and none but register in a parameter; a word for functions only where there is a declarator
abbrev pub only_register : List ℕ → Bool
only_register [] = true
only_register (word ∷ rest) = (word == word_register) && only_register rest

abbrev pub is_plain : List ℕ → Bool
is_plain [] = true
is_plain (word ∷ rest) = false

abbrev pub words_fit : Source → ℕ → List ℕ → List ℕ → Bool
words_fit s at storage functions =
    nat_le (length storage) 1
    && (if stands_in s p_external at then not (contains storage word_auto || contains storage word_register)
    && (is_plain functions || has_declarator s at)
    else if stands_in s p_declaration at then is_plain functions || has_declarator s at
    else if stands_in s p_parameter at then only_register storage && is_plain functions
    else is_plain storage && is_plain functions)

module _ (w : World) (s : Source) (sense : ℕ → Sense) where
  -- 6.7.5: the expression of an alignment is a constant, and its type is complete; it has no other effect
  abbrev pub align_operand : ℕ → Sense → Given Sense
  align_operand at (IsType t) = given_if (has_size w t) Operand at (Fits Nothing)
  align_operand at x = constant_in w s at x >>= (λ n. Fits Nothing)

  abbrev pub align_specifier : ℕ → List ℕ → Given Sense
  align_specifier at children =
      elim
      (last_where (λ c. not (is_leaf s c)) children)
      [ None ↦ Refuses Operand at | Some c ↦ align_operand at (sense c) ]

  -- 6.7.2, 6.7.8: a type specifier: a word, which means something beside the others alone; the name of a floating
  -- type or of a typedef; or a structure, union or enumeration
  abbrev pub named_type : ℕ → ℕ → Option Meaning → Given Sense
  named_type at c (Some (TypeName t)) = Fits (IsType t)
  named_type at c None =
      Fits (IsType (if is_some (own_meaning own_words (spelling_at s c)) then FloatingType else VaListType))
  named_type at c (Some other) = Refuses Operand at

  abbrev pub type_leaf : ℕ → ℕ → Bool → Given Sense
  type_leaf at c true = Fits Nothing
  type_leaf at c false = named_type at c (w.meaning c)

  abbrev pub type_row : ℕ → List ℕ → Given Sense
  type_row at [] = Refuses Operand at
  type_row at (c ∷ rest) = if is_leaf s c then type_leaf at c (is_word_kind (kind_at s c)) else Fits (sense c)

  -- the type of specifiers
  abbrev pub first_type : List ℕ → Option Ctype
  first_type [] = None
  first_type (c ∷ rest) = elim (sense c) [ IsType t ↦ Some t | _ ↦ first_type rest ]

  abbrev pub specified_type : List ℕ → Option Ctype → Ctype
  specified_type types None = type_of_words (words_at s types)
  specified_type types (Some t) = t

  abbrev pub specs_row : ℕ → List ℕ → Given Sense
  specs_row at children =
      let types = all_where (is_a s p_type) children in
      given_if (words_fit s at (storage_words s children) (function_words s children)) Operand at
      (Fits
      (IsSpecified
      (record {
        storage = storage_words s children;
        functions = function_words s children;
        type = specified_type types (first_type types);
      })))
