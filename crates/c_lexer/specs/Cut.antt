-- The tokens of a text, and its first fault (C11 5.1.1.2, 6.4).
use Rattle.std.specs.Prelude.{◌≡◌, ℕ, ◌+◌, ◌-◌, ◌^◌, ◌<◌, ◌≤◌, ◌==◌, ◌⊎◌, Option, Some, None, MatchOption, List, []}
use Rattle.std.specs.Prelude.{◌∷◌, ◌++◌, length, slice_index, if◌then◌else◌}
use Rattle.c_lexer.specs.declared.Token.{Token}
use Rattle.c_lexer.specs.declared.TokenKind.{TokenKind}
use Rattle.c_lexer.specs.declared.TokenKind.TheVariants.{End}
use Rattle.c_lexer.specs.declared.LexFault.{LexFault}
use Rattle.c_lexer.specs.declared.LexFault.TheVariants.{BadByte, Unended, BadNumber, TooLong, OutOfMemory}
use Rattle.c_lexer.specs.declared.runs.Run.TheVariants.{White, Line, Name, Number}
use Rattle.c_lexer.specs.declared.meanings.Meaning.{Meaning}
use Rattle.c_lexer.specs.declared.meanings.Meaning.TheVariants as means
use Rattle.c_lexer.specs.declared.groups.Need.{Need}
use Rattle.c_lexer.specs.declared.groups.Need.TheVariants.{Opening, Closings}
use Rattle.c_lexer.specs.Spellings.{position}
use Rattle.c_lexer.specs.Places.{line_of, column_of}
use Rattle.c_lexer.specs.Pieces.{Kind, run, sign, literal, Piece, IsPiece, Stops}
use Rattle.c_lexer.specs.Meanings.{meaning, Flaw, IsGood}

-- pieces without a flaw stand end to end from one place to another
abbrev pub Pieces : List ℕ → ℕ → List Piece → ℕ → Type 0
Pieces text a [] b = a ≡ b
Pieces text a (p ∷ ps) b = (p.from ≡ a) × IsGood text p × Pieces text p.end ps b

-- What a group of parentheses needs behind a piece, where it needs something before it: its opening parenthesis,
-- with nothing but white space and dropped lines before it, or so many closing parentheses.
abbrev pub need_after : Need → Kind → Option Need
need_after Opening (run White) = Some Opening
need_after Opening (run Line) = Some Opening
need_after Opening (run Name) = None
need_after Opening (run Number) = None
need_after Opening (sign k) = if position k == 2 then Some (Closings 1) else None
need_after Opening (literal p q) = None
need_after (Closings n) (run r) = Some (Closings n)
need_after (Closings n) (sign k) =
    if position k == 2 then Some (Closings (n + 1)) else if position k == 3 then Some (Closings (n - 1))
    else Some (Closings n)
need_after (Closings n) (literal p q) = Some (Closings n)

-- the pieces are just what is needed
abbrev pub Meets : Need → List Piece → Type 0
Meets need [] = need ≡ Closings 0
Meets need (p ∷ ps) = (need ≡ Closings 0 → ⊥) × MatchOption (need_after need p.kind) ⊥ (λ next. Meets next ps)

-- pieces between two places are what is needed
abbrev pub Supplies : Need → List ℕ → ℕ → ℕ → Type 0
Supplies need text from end = (ps : List Piece) × Pieces text from ps end × Meets need ps

-- a balanced group of parentheses, with white space and dropped lines before it
abbrev pub Group : List ℕ → ℕ → ℕ → Type 0
Group text from end = Supplies Opening text from end

-- a piece with the place where what it begins ends: an attribute ends with its group, and everything else with its
-- piece
pub record Step : Type 0 where
  pub piece : Piece
  pub end : ℕ

abbrev pub Ends : Meaning → List ℕ → ℕ → ℕ → Type 0
Ends means.Nothing text at end = end ≡ at
Ends means.Attribute text at end = Group text at end
Ends (means.Token kind) text at end = end ≡ at

pub record IsStep (text : List ℕ) (s : Step) : Type 0 where
  pub good : IsGood text s.piece
  pub ends : Ends (meaning text s.piece) text s.piece.end s.end

-- the steps stand end to end from one place to another
abbrev pub Cut : List ℕ → ℕ → List Step → ℕ → Type 0
Cut text a [] b = a ≡ b
Cut text a (s ∷ ss) b = (s.piece.from ≡ a) × IsStep text s × Cut text s.end ss b

-- the token of a kind with its span, and the line and column of its first byte
abbrev pub token_at : List ℕ → TokenKind → ℕ → ℕ → Token
token_at text kind from end =
    record { kind = kind; start = from; end = end; line = line_of text from; column = column_of text from }

-- the token that a piece is, if it is one
abbrev pub tokens_of : Meaning → List ℕ → Piece → List Token
tokens_of means.Nothing text p = []
tokens_of means.Attribute text p = []
tokens_of (means.Token kind) text p = token_at text kind p.from p.end ∷ []

-- the tokens of the steps, in order
abbrev pub all_tokens : List ℕ → List Step → List Token
all_tokens text [] = []
all_tokens text (s ∷ ss) = tokens_of (meaning text s.piece) text s.piece ++ all_tokens text ss

-- the tokens of a text: those of its steps, and the end
abbrev pub IsTokens : List ℕ → List Token → Type 0
IsTokens text tokens =
    (length text ≤ 2 ^ 24)
    × ((ss : List Step) × Cut text 0 ss (length text)
    × (tokens ≡ all_tokens text ss ++ token_at text End (length text) (length text) ∷ []))

abbrev pub IsQuote : ℕ → Type 0
IsQuote c = (c ≡ 34) ⊎ (c ≡ 39)

-- why no piece without a flaw begins at a place: nothing stands there, which is an unended literal where a quote
-- is; or the piece that stands there has a flaw
pub data Bars (text : List ℕ) (at : ℕ) : LexFault → Type 0 where
  byte : Stops text at → (IsQuote (slice_index text at) → ⊥) → Bars text at (BadByte at)
  quote : Stops text at → IsQuote (slice_index text at) → Bars text at (Unended at)
  flaw : (p : Piece) (fault : LexFault) → p.from ≡ at → IsPiece text p → Flaw text p fault → Bars text at fault

-- why no step begins at a place: no piece without a flaw does, or an attribute without its group
pub data Blocks (text : List ℕ) (at : ℕ) : LexFault → Type 0 where
  barred : (fault : LexFault) → Bars text at fault → Blocks text at fault
  attribute : (p : Piece)
      → p.from ≡ at
      → IsGood text p
      → meaning text p ≡ means.Attribute
      → ((end : ℕ) → Group text p.end end → ⊥)
      → Blocks text at (Unended at)

-- the first place where no step begins, and why
abbrev pub FirstFault : List ℕ → LexFault → Type 0
FirstFault text fault =
    (length text ≤ 2 ^ 24) × ((ss : List Step) × (at : ℕ) × Cut text 0 ss at × Blocks text at fault)

abbrev pub IsFault : List ℕ → LexFault → Type 0
IsFault text (BadByte at) = FirstFault text (BadByte at)
IsFault text (Unended at) = FirstFault text (Unended at)
IsFault text (BadNumber at) = FirstFault text (BadNumber at)
IsFault text TooLong = 2 ^ 24 < length text
IsFault text OutOfMemory = Unit {0}
