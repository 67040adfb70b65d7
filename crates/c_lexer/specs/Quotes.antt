-- Literals between quotes (C11 6.4.4.4, 6.4.5).
use Rattle.std.specs.Prelude.{◌≡◌, ℕ, zero, suc, ◌+◌, ◌<◌, ◌≤◌, ◌==◌, Bool, true, false, ◌&&◌, not, List, [], codes}
use Rattle.std.specs.Prelude.{length, slice_index}
use Rattle.c_lexer.specs.Spells.{Spells}
use Rattle.c_lexer.specs.declared.quotes.Prefix.{Prefix}
use Rattle.c_lexer.specs.declared.quotes.Prefix.TheVariants.{Plain, Wide, Char16, Char32, Utf8}
use Rattle.c_lexer.specs.declared.quotes.Quote.{Quote}
use Rattle.c_lexer.specs.declared.quotes.Quote.TheVariants.{Character, Text}

-- the spelling of a prefix
abbrev pub prefix : Prefix → List ℕ
prefix Plain = []
prefix Wide = codes "L"
prefix Char16 = codes "u"
prefix Char32 = codes "U"
prefix Utf8 = codes "u8"

-- the quote of a character constant, and of a string
abbrev pub mark : Quote → ℕ
mark Character = 39
mark Text = 34

-- u8 is a prefix of strings alone
abbrev pub Allowed : Prefix → Quote → Type 0
Allowed Utf8 Character = ⊥
Allowed Utf8 Text = Unit {0}
Allowed Plain q = Unit {0}
Allowed Wide q = Unit {0}
Allowed Char16 q = Unit {0}
Allowed Char32 q = Unit {0}

-- a literal of more than a byte for each character
abbrev pub is_wide : Prefix → Bool
is_wide Plain = false
is_wide Wide = true
is_wide Char16 = true
is_wide Char32 = true
is_wide Utf8 = false

-- a prefix stands at a place, with a quote directly behind it
pub record Opens (text : List ℕ) (from : ℕ) (p : Prefix) (q : Quote) : Type 0 where
  pub allowed : Allowed p q
  pub spelled : Spells text from (prefix p)
  pub within : from + length (prefix p) < length text
  pub quote : slice_index text (from + length (prefix p)) ≡ mark q

-- Whether a backslash escapes the byte that stands n bytes behind a literal's first one: the byte before it is then
-- a backslash that isn't escaped itself.
unfoldable pub is_escaped : List ℕ → ℕ → ℕ → Bool
is_escaped text inside zero = false
is_escaped text inside (suc n) = slice_index text (inside + n) == 92 && not (is_escaped text inside n)

-- the byte that stands n bytes behind a literal's first one is its quote, and closes it
abbrev pub Closes : List ℕ → ℕ → ℕ → Type 0
Closes text quote n =
    (slice_index text (quote + 1 + n) ≡ slice_index text quote) × (is_escaped text (quote + 1) n ≡ false)

-- the literal whose opening quote stands at a place has n bytes between its quotes, none of which ends the line
pub record Closed (text : List ℕ) (quote n : ℕ) : Type 0 where
  pub within : quote + n + 2 ≤ length text
  pub closes : Closes text quote n
  pub line : (i : ℕ) → i < n → slice_index text (quote + 1 + i) ≡ 10 → ⊥
  pub first : (i : ℕ) → i < n → Closes text quote i → ⊥
