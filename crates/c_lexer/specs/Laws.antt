-- The laws of the cutting.
use Rattle.std.specs.Prelude.{◌≡◌, ℕ, ◌≤◌, ◌⊎◌, List, [], ◌∷◌, length, All}
use Rattle.c_lexer.specs.declared.Token.{Token}
use Rattle.c_lexer.specs.declared.LexFault.{LexFault}
use Rattle.c_lexer.specs.declared.LexFault.TheVariants.{OutOfMemory}
use Rattle.c_lexer.specs.declared.TokenKind.TheVariants.{End}
use Rattle.c_lexer.specs.declared.meanings.Meaning.TheVariants as means
use Rattle.c_lexer.specs.Pieces.{Piece}
use Rattle.c_lexer.specs.Meanings.{meaning, IsGood}
use Rattle.c_lexer.specs.Cut.{IsTokens, IsFault}

-- a text has one list of tokens or one first fault, and not both
pub record OneCutting : Type 0 where
  pub tokens : (text : List ℕ) (ts us : List Token) → IsTokens text ts → IsTokens text us → ts ≡ us
  pub fault : (text : List ℕ) (f g : LexFault)
      → (f ≡ OutOfMemory → ⊥)
      → (g ≡ OutOfMemory → ⊥)
      → IsFault text f
      → IsFault text g
      → f ≡ g
  pub either : (text : List ℕ) (ts : List Token) (f : LexFault)
      → (f ≡ OutOfMemory → ⊥)
      → IsTokens text ts
      → IsFault text f
      → ⊥

-- each token starts where the one before ended or later, ends where it starts or later, and all end within the text
abbrev pub Ordered : ℕ → ℕ → List Token → Type 0
Ordered from end [] = from ≤ end
Ordered from end (t ∷ ts) = (from ≤ t.start) × (t.start ≤ t.end) × Ordered t.end end ts

abbrev pub SpansInOrder : Type 0
SpansInOrder = (text : List ℕ) (ts : List Token) → IsTokens text ts → Ordered 0 (length text) ts

-- a token is a piece without a flaw that means it, or the end of the text
abbrev pub Stands : List ℕ → Token → Type 0
Stands text t =
    ((t.kind ≡ End) × (t.start ≡ length text) × (t.end ≡ length text))
    ⊎ ((p : Piece) × (p.from ≡ t.start) × (p.end ≡ t.end) × IsGood text p × (meaning text p ≡ means.Token t.kind))

abbrev pub TokensStand : Type 0
TokensStand = (text : List ℕ) (ts : List Token) → IsTokens text ts → All (Stands text) ts
