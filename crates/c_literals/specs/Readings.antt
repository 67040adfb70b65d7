-- What the reading of a production says of the strings among its tokens.
use Rattle.std.specs.Prelude.{◌≡◌, ℕ, ◌<◌, ◌≤◌, ◌^◌, false, Some, Ok, List, slice_get}
use Rattle.c_lexer.specs.declared.Token.{Token}
use Rattle.c_lexer.specs.declared.TokenKind.TheVariants.{Integer, Text}
use Rattle.c_lexer.specs.Cut.{IsTokens}
use Rattle.c_grammar.specs.Terminals.{spelled, is_wide}
use Rattle.c_grammar.specs.Reads.{State, Opens}
use Rattle.c_senses.specs.Literals.{value_of_integer, bytes_of_string}
use Rattle.c_literals.specs.Laws.{AreBytes}

-- the token at a place, if there is one, is no wide string
abbrev pub NotWide : List ℕ → List Token → ℕ → Type 0
NotWide text tokens i = (t : Token) → slice_get tokens i ≡ Some t → t.kind ≡ Text → is_wide (spelled text t) ≡ false

-- no string among the tokens that a reading takes is wide
abbrev pub StringsAreNarrow : Type 0
StringsAreNarrow =
    (text : List ℕ) (tokens : List Token) (q d : ℕ) (s t : State)
    → Opens text tokens q d s (Ok t)
    → (i : ℕ)
    → s.place ≤ i
    → i < t.place
    → NotWide text tokens i

-- a token can be evaluated: an integer constant is below 2^64, and a string stands for bytes
pub record IsReadable (text : List ℕ) (t : Token) : Type 0 where
  pub integer : t.kind ≡ Integer → value_of_integer (spelled text t) < 2 ^ 64
  pub string : t.kind ≡ Text → AreBytes (bytes_of_string (spelled text t))

-- each token that a reading takes can be
abbrev pub ReadingsAreReadable : Type 0
ReadingsAreReadable =
    (text : List ℕ) (tokens : List Token) (q d : ℕ) (s t : State)
    → AreBytes text → IsTokens text tokens → Opens text tokens q d s (Ok t)
    → (i : ℕ) (token : Token) → s.place ≤ i → i < t.place → slice_get tokens i ≡ Some token → IsReadable text token
