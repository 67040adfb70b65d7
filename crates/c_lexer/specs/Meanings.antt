-- What a piece means for the list of tokens, and its flaws.
use Rattle.std.specs.Prelude.{◌≡◌, ℕ, ◌+◌, ◌-◌, ◌<◌, ◌⊎◌, Bool, false, ◌||◌, nat_eq, Option, Some, None, List, []}
use Rattle.std.specs.Prelude.{◌∷◌, codes, slice_range, if◌then◌else◌}
use Rattle.std.specs.Cmp.Lexicographic.{pointwise}
use Rattle.c_lexer.specs.declared.TokenKind.TheVariants as token
use Rattle.c_lexer.specs.declared.LexFault.{LexFault}
use Rattle.c_lexer.specs.declared.LexFault.TheVariants.{BadByte, Unended, BadNumber}
use Rattle.c_lexer.specs.declared.meanings.Meaning.{Meaning}
use Rattle.c_lexer.specs.declared.meanings.Meaning.TheVariants.{Nothing, Attribute, Token}
use Rattle.c_lexer.specs.declared.runs.Run.TheVariants.{White, Line, Name, Number}
use Rattle.c_lexer.specs.declared.quotes.Quote.{Quote}
use Rattle.c_lexer.specs.declared.quotes.Quote.TheVariants.{Character, Text}
use Rattle.c_lexer.specs.Spellings.{keywords, position}
use Rattle.c_lexer.specs.Numbers.{is_integer, is_floating}
use Rattle.c_lexer.specs.Quotes.{is_wide}
use Rattle.c_lexer.specs.Escapes.{IsBad}
use Rattle.c_lexer.specs.Pieces.{Kind, run, sign, literal, quote_of, Piece, IsPiece}

-- the position of a word in a table
unfoldable pub lookup : List (List ℕ × ℕ) → List ℕ → Option ℕ
lookup [] word = None
lookup (e ∷ es) word = if pointwise nat_eq e.0 word then Some e.1 else lookup es word

abbrev pub keyword_meaning : Option ℕ → Meaning
keyword_meaning None = Token token.Identifier
keyword_meaning (Some k) = Token (token.Keyword k)

-- __attribute__ and __extension__ are dropped words; a keyword has its position; every other word is an identifier
unfoldable pub word_meaning : List ℕ → Meaning
word_meaning word =
    if pointwise nat_eq (codes "__attribute__") word then Attribute
    else if pointwise nat_eq (codes "__extension__") word then Nothing
    else keyword_meaning (lookup keywords word)

unfoldable pub number_meaning : List ℕ → Meaning
number_meaning word = if is_integer word then Token token.Integer else Token token.Floating

-- what a piece of a kind means by its bytes
abbrev pub kind_meaning : Kind → List ℕ → Meaning
kind_meaning (run White) word = Nothing
kind_meaning (run Line) word = Nothing
kind_meaning (run Name) word = word_meaning word
kind_meaning (run Number) word = number_meaning word
kind_meaning (sign k) word = Token (token.Punctuator (position k))
kind_meaning (literal p Character) word = Token token.Character
kind_meaning (literal p Text) word = Token token.Text

abbrev pub meaning : List ℕ → Piece → Meaning
meaning text p = kind_meaning p.kind (slice_range text p.from p.end)

-- the first bad escape of a literal stands n bytes behind its first byte
pub record FirstBad (wide : Bool) (text : List ℕ) (inside size n : ℕ) : Type 0 where
  pub within : n < size
  pub bad : IsBad wide text inside n
  pub first : (i : ℕ) → i < n → IsBad wide text inside i → ⊥

-- the flaw of a closed literal: a character constant without a character, else its first bad escape
abbrev pub LiteralFlaw : Bool → Quote → List ℕ → ℕ → ℕ → LexFault → Type 0
LiteralFlaw wide q text quote size fault =
    ((q ≡ Character) × (size ≡ 0) × (fault ≡ Unended quote))
    ⊎ ((n : ℕ) × FirstBad wide text (quote + 1) size n × (fault ≡ BadByte (quote + 1 + n)))

-- the flaw of a piece: a number that is no constant, or what is wrong in a literal
abbrev pub KindFlaw : Kind → List ℕ → ℕ → ℕ → LexFault → Type 0
KindFlaw (run White) text from end fault = ⊥
KindFlaw (run Line) text from end fault = ⊥
KindFlaw (run Name) text from end fault = ⊥
KindFlaw (run Number) text from end fault =
    ((is_integer (slice_range text from end) || is_floating (slice_range text from end)) ≡ false)
    × (fault ≡ BadNumber from)
KindFlaw (sign k) text from end fault = ⊥
KindFlaw (literal p q) text from end fault =
    LiteralFlaw (is_wide p) q text (quote_of p from) (end - quote_of p from - 2) fault

abbrev pub Flaw : List ℕ → Piece → LexFault → Type 0
Flaw text p fault = KindFlaw p.kind text p.from p.end fault

-- a piece without a flaw
pub record IsGood (text : List ℕ) (p : Piece) : Type 0 where
  pub piece : IsPiece text p
  pub flawless : (fault : LexFault) → Flaw text p fault → ⊥
