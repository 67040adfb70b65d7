-- What the tokens of a text say of its constants and strings.
use Rattle.std.specs.Prelude.{◌≡◌, ℕ, ◌<◌, ◌^◌, false, List, All}
use Rattle.c_lexer.specs.declared.Token.{Token}
use Rattle.c_lexer.specs.declared.TokenKind.TheVariants.{Integer, Text}
use Rattle.c_lexer.specs.Cut.{IsTokens}
use Rattle.c_grammar.specs.Terminals.{spelled, is_wide}
use Rattle.c_senses.specs.Literals.{value_of_integer, bytes_of_string}

-- what stands for a literal is a list of bytes
abbrev pub AreBytes : List ℕ → Type 0
AreBytes xs = All (λ b. b < 256) xs

-- an integer constant is below 2^64, and a string that isn't wide stands for bytes
pub record LiteralFits (text : List ℕ) (t : Token) : Type 0 where
  pub integer : t.kind ≡ Integer → value_of_integer (spelled text t) < 2 ^ 64
  pub string : t.kind ≡ Text → is_wide (spelled text t) ≡ false → AreBytes (bytes_of_string (spelled text t))

abbrev pub LiteralsFit : Type 0
LiteralsFit = (text : List ℕ) (ts : List Token) → AreBytes text → IsTokens text ts → All (LiteralFits text) ts
