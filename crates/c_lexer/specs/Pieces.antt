-- How a text is cut into pieces (C11 5.1.1.2, 6.4): each is the longest run of bytes that can stand there.
use Rattle.std.specs.Prelude.{◌≡◌, ℕ, ◌+◌, ◌-◌, ◌<◌, ◌≤◌, ◌==◌, ◌⊎◌, Bool, true, ◌&&◌, ◌||◌, not, List, length}
use Rattle.std.specs.Prelude.{slice_index}
use Rattle.c_lexer.specs.declared.runs.Run.{Run}
use Rattle.c_lexer.specs.declared.runs.Run.TheVariants.{White, Line, Name, Number}
use Rattle.c_lexer.specs.declared.pieces.Found.{Found}
use Rattle.c_lexer.specs.declared.pieces.PieceKind.{PieceKind}
use Rattle.c_lexer.specs.declared.pieces.PieceKind.TheVariants as found
use Rattle.c_lexer.specs.declared.quotes.Prefix.{Prefix}
use Rattle.c_lexer.specs.declared.quotes.Quote.{Quote}
use Rattle.c_lexer.specs.Bytes.{is_letter, is_digit, is_white}
use Rattle.c_lexer.specs.Spells.{Spells}
use Rattle.c_lexer.specs.Spellings.{spelling}
use Rattle.c_lexer.specs.Places.{begins_line}
use Rattle.c_lexer.specs.Quotes.{prefix, Opens, Closed}

-- whether a byte may follow another in a run
unfoldable pub follows : Run → ℕ → ℕ → Bool
follows White before byte = is_white byte
follows Line before byte = not (byte == 10)
follows Name before byte = is_letter byte || is_digit byte
-- a preprocessing number (6.4.8): a sign goes on directly behind e, E, p and P
follows Number before byte =
    is_letter byte || is_digit byte || byte == 46
    || ((byte == 43 || byte == 45) && (before == 101 || before == 69 || before == 112 || before == 80))

-- whether a run may begin at a place; a dropped line begins with a # before which only blanks stand
abbrev pub Begins : Run → List ℕ → ℕ → Type 0
Begins White text at = is_white (slice_index text at) ≡ true
Begins Line text at = (slice_index text at ≡ 35) × (begins_line text at ≡ true)
Begins Name text at = is_letter (slice_index text at) ≡ true
Begins Number text at =
    (is_digit (slice_index text at) ≡ true)
    ⊎ ((slice_index text at ≡ 46) × (at + 1 < length text) × (is_digit (slice_index text (at + 1)) ≡ true))

-- a run, a punctuator by the number of its spelling, or a literal
pub data Kind : Type 0 where
  run : Run → Kind
  sign : ℕ → Kind
  literal : Prefix → Quote → Kind

-- the place of a literal's opening quote
abbrev pub quote_of : Prefix → ℕ → ℕ
quote_of p from = from + length (prefix p)

-- Stands k text from end: the bytes from one place to the other can be a piece of the kind k.
abbrev pub Stands : Kind → List ℕ → ℕ → ℕ → Type 0
Stands (run r) text from end =
    (from < end) × Begins r text from
    × ((i : ℕ) → from < i → i < end → follows r (slice_index text (i - 1)) (slice_index text i) ≡ true)
Stands (sign k) text from end =
    ((slice_index text from ≡ 35) × (begins_line text from ≡ true) → ⊥) × (k < 54)
    × (end ≡ from + length (spelling k)) × Spells text from (spelling k)
Stands (literal p q) text from end =
    Opens text from p q × ((n : ℕ) × (end ≡ quote_of p from + n + 2) × Closed text (quote_of p from) n)

pub record Piece : Type 0 where
  pub kind : Kind
  pub from : ℕ
  pub end : ℕ

-- what the code finds at a place, seen as a piece
abbrev pub kind_of : PieceKind → Kind
kind_of (found.Run r) = run r
kind_of (found.Sign k) = sign k
kind_of (found.Literal p q) = literal p q

-- a spelling's number is that of one
abbrev pub Numbered : PieceKind → Type 0
Numbered (found.Run r) = Unit {0}
Numbered (found.Sign k) = k < 54
Numbered (found.Literal p q) = Unit {0}

abbrev pub piece_of : ℕ → Found → Piece
piece_of from found = record { kind = kind_of found.kind; from = from; end = found.end }

-- a piece is the longest run that can stand at its place
pub record IsPiece (text : List ℕ) (p : Piece) : Type 0 where
  pub within : (p.from < p.end) × (p.end ≤ length text)
  pub stands : Stands p.kind text p.from p.end
  pub longest : (k : Kind) (end : ℕ) → p.end < end → end ≤ length text → Stands k text p.from end → ⊥

-- no literal stands at a place
abbrev pub NoLiteral : List ℕ → ℕ → Type 0
NoLiteral text at = (p : Prefix) (q : Quote) (end : ℕ) → Stands (literal p q) text at end → ⊥

-- no piece begins at a place
abbrev pub Stops : List ℕ → ℕ → Type 0
Stops text at = (at < length text) × ((k : Kind) (end : ℕ) → end ≤ length text → Stands k text at end → ⊥)
