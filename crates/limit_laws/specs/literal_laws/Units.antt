-- Units whose constants and strings stand for numbers and bytes.
use Rattle.std.specs.Prelude.{ℕ}
use Rattle.c_lexer.specs.declared.Tokens.{Tokens}
use Rattle.c_lexer.specs.Cut.{IsTokens}
use Rattle.c_grammar.specs.declared.trees.Tree.{Tree}
use Rattle.c_parser.specs.c_units.Units.{IsUnit}
use Rattle.c_senses.specs.Names.{source_of, numbered}
use Rattle.c_literals.specs.Laws.{AreBytes}
use Rattle.expression_rows.specs.Readable.{IsReadable}

-- whatever the numbers of tags are
abbrev pub UnitsAreReadable : Type 0
UnitsAreReadable =
    (tokens : Tokens) (unit : ℕ) (tree : Tree) (tag_number : ℕ → ℕ)
    → AreBytes tokens.text.now → IsTokens tokens.text.now tokens.list.items → IsUnit tokens unit tree
    → (at : ℕ) → IsReadable (numbered tag_number (source_of tokens tree)) at
