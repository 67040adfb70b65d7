-- Names that were numbered lately, beside the map of all that are numbered.
use Rattle.std.specs.Prelude.{◌≡◌, ℕ, Option, Some, List, All, length, slice_get}
use Rattle.c_lexer.specs.declared.Token.{Token}
use Rattle.c_grammar.specs.Terminals.{spelled}

-- a token with the symbol of its name, or a number that is no token's
abbrev pub Recalled : List ℕ → List Token → (List ℕ → Option ℕ) → ℕ × ℕ → Type 0
Recalled text tokens firsts entry =
    (t : Token) → slice_get tokens entry.0 ≡ Some t → firsts (spelled text t) ≡ Some entry.1

abbrev pub Recalls : List ℕ → List Token → (List ℕ → Option ℕ) → List (ℕ × ℕ) → Type 0
Recalls text tokens firsts recent = All (Recalled text tokens firsts) recent

pub record Recent (text : List ℕ) (tokens : List Token) (firsts : List ℕ → Option ℕ)
    (recent : List (ℕ × ℕ)) : Type 0 where
  pub count : length recent ≡ 1024
  pub recalls : Recalls text tokens firsts recent
