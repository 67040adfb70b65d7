-- Constants and strings that stand for numbers and bytes (C11 6.4.4.1, 6.4.5).
use Rattle.std.specs.Prelude.{ℕ, ◌≡◌, ◌<◌, ◌^◌, ⊤, List, [], ◌∷◌, All}
use Rattle.c_lexer.specs.declared.TokenKind.TheVariants.{Integer, Text}
use Rattle.c_grammar.specs.Productions.{p_primary}
use Rattle.c_senses.specs.Tree.{Source, production_at, children_at, kind_at, spelling_at}
use Rattle.c_senses.specs.World.{World}
use Rattle.c_senses.specs.Literals.{value_of_integer, bytes_of_string}
use Rattle.c_senses.specs.Sense.{Sense}
use Rattle.c_senses.specs.Expressions.{expression_row}
use Rattle.c_literals.specs.Laws.{AreBytes}
use Rattle.expression_rows.specs.Built.{built_row}

-- an integer constant is below 2^64, and where a string stands first, all are strings of bytes
abbrev pub LiteralsFit : Source → List ℕ → Type 0
LiteralsFit s [] = ⊤
LiteralsFit s (first ∷ rest) =
    (kind_at s first ≡ Integer → value_of_integer (spelling_at s first) < 2 ^ 64)
    × (kind_at s first ≡ Text → All (λ i. AreBytes (bytes_of_string (spelling_at s i))) (first ∷ rest))

-- of a primary alone
abbrev pub IsReadable : Source → ℕ → Type 0
IsReadable s at = production_at s at ≡ p_primary → LiteralsFit s (children_at s at)

-- such a node's row is built as it is
abbrev pub BuiltIsWhole : Type 0
BuiltIsWhole =
    (w : World) (s : Source) (sense : ℕ → Sense) (at : ℕ)
    → IsReadable s at
    → built_row w s sense (production_at s at) at (children_at s at)
    ≡ expression_row w s sense (production_at s at) at (children_at s at)
