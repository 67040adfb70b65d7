-- Internal names and their entities (C11 6.2.2, 6.2.7, 6.7.9).
use Rattle.std.specs.Prelude.{ℕ, ◌≡◌, List, length}
use Rattle.c_lexer.specs.declared.Tokens.{Tokens}
use Rattle.c_lexer.specs.Cut.{IsTokens}
use Rattle.c_grammar.specs.declared.trees.Tree.{Tree}
use Rattle.c_parser.specs.c_units.Units.{IsUnit}
use Rattle.c_senses.specs.Names.{source_of, numbered}
use Rattle.c_senses.specs.Sense.{Sense}
use Rattle.c_senses.specs.Rows.{AreSenses}
use Rattle.valid_unit_laws.specs.object_initialiser_laws.internal_name_laws.internal_types.PassedOn.{InternalFit}

-- internal names fit in each unit that is read, whose rows all fit
abbrev pub InternalsFit : Type 0
InternalsFit =
    (tokens : Tokens) (unit : ℕ) (tree : Tree) (tag_number : ℕ → ℕ) (senses : List Sense)
    → IsTokens tokens.text.now tokens.list.items
    → IsUnit tokens unit tree
    → AreSenses (numbered tag_number (source_of tokens tree)) senses
    → length senses ≡ length (numbered tag_number (source_of tokens tree)).nodes
    → InternalFit (numbered tag_number (source_of tokens tree)) senses
