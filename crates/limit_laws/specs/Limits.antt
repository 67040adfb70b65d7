-- Types are within the limits wherever rows fit (C11 5.2.4.1).
use Rattle.std.specs.Prelude.{ℕ, List, length}
use Rattle.c_lexer.specs.declared.Tokens.{Tokens}
use Rattle.c_lexer.specs.Cut.{IsTokens}
use Rattle.c_grammar.specs.declared.trees.Tree.{Tree}
use Rattle.c_parser.specs.c_units.Units.{IsUnit}
use Rattle.c_senses.specs.Names.{source_of, numbered}
use Rattle.c_senses.specs.Tree.{Source}
use Rattle.c_senses.specs.Sense.{Sense}
use Rattle.c_senses.specs.Right.{TagsDiffer}
use Rattle.c_senses.specs.Rows.{world_at, AreSenses}
use Rattle.c_declarators.specs.Limited.{AreLimited}

-- where the rows of the first nodes fit, the types of their senses are within the limits of the world behind them
abbrev pub AlwaysLimited : Source → Type 0
AlwaysLimited s =
    TagsDiffer s
    → (senses : List Sense)
    → AreSenses s senses
    → AreLimited (world_at s senses (length senses)) senses

-- so it is in each unit that is read, whatever the numbers of tags are
abbrev pub UnitsAreLimited : Type 0
UnitsAreLimited =
    (tokens : Tokens) (unit : ℕ) (tree : Tree) (tag_number : ℕ → ℕ)
    → IsTokens tokens.text.now tokens.list.items
    → IsUnit tokens unit tree
    → AlwaysLimited (numbered tag_number (source_of tokens tree))
