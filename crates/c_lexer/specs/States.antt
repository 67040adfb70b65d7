-- How far the tokens of a text are known at a place.
use Rattle.std.specs.Prelude.{◌≡◌, ℕ, ◌≤◌, Option, Some, None, List, [], ◌∷◌, ◌++◌}
use Rattle.c_lexer.specs.declared.Token.{Token}
use Rattle.c_lexer.specs.declared.TokenKind.{TokenKind}
use Rattle.c_lexer.specs.declared.meanings.Meaning.TheVariants.{Attribute}
use Rattle.c_lexer.specs.declared.groups.Need.{Need}
use Rattle.c_lexer.specs.declared.groups.Need.TheVariants.{Opening, Closings}
use Rattle.c_lexer.specs.declared.groups.Pending.{Pending}
use Rattle.c_lexer.specs.Pieces.{Piece}
use Rattle.c_lexer.specs.Meanings.{meaning, IsGood}
use Rattle.c_lexer.specs.Cut.{Supplies, Group, Step, Cut, all_tokens, token_at}

-- the text is cut up to a place, and these are the tokens
abbrev pub Reached : List ℕ → ℕ → List Token → Type 0
Reached text at tokens = (ss : List Step) × Cut text 0 ss at × (tokens ≡ all_tokens text ss)

-- An attribute is pending: the text is cut up to it, and its group ends where what is still needed does.
pub record IsPending (text : List ℕ) (at : ℕ) (tokens : List Token) (pending : Pending) : Type 0 where
  pub reached : Reached text pending.start tokens
  pub piece : Piece
  pub from : piece.from ≡ pending.start
  pub good : IsGood text piece
  pub means : meaning text piece ≡ Attribute
  pub unmet : pending.need ≡ Closings 0 → ⊥
  pub forth : (end : ℕ) → Group text piece.end end → Supplies pending.need text at end
  pub back : (end : ℕ) → Supplies pending.need text at end → Group text piece.end end

abbrev pub IsState : List ℕ → ℕ → List Token → Option Pending → Type 0
IsState text at tokens None = Reached text at tokens
IsState text at tokens (Some pending) = IsPending text at tokens pending

-- what is still needed counts at most so much
abbrev pub NeedWithin : Need → ℕ → Type 0
NeedWithin Opening n = Unit {0}
NeedWithin (Closings k) n = k ≤ n

abbrev pub PendingWithin : Option Pending → ℕ → Type 0
PendingWithin None n = Unit {0}
PendingWithin (Some pending) n = (pending.start ≤ n) × NeedWithin pending.need n

-- the tokens with one more, if there is one
abbrev pub pushed : List ℕ → List Token → Option TokenKind → ℕ → ℕ → List Token
pushed text tokens None from end = tokens
pushed text tokens (Some kind) from end = tokens ++ token_at text kind from end ∷ []
