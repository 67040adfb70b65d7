-- Names that are spelled in ASCII.
use Rattle.std.specs.Prelude.{ℕ, ◌≡◌, ◌<◌, true, All}
use Rattle.c_lexer.specs.Cut.{IsTokens}
use Rattle.c_senses.specs.Tree.{Source, is_name, spelling_at}

-- where the tokens are those of the text
abbrev pub NamesAreSpelled : Type 0
NamesAreSpelled =
    (s : Source)
    → IsTokens s.text s.tokens
    → (name : ℕ)
    → is_name s name ≡ true
    → All (λ b. b < 128) (spelling_at s name)
