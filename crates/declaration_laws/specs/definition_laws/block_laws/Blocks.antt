-- The blocks of functions of a parsed unit.
use Rattle.std.specs.Prelude.{ℕ, ◌≡◌, List, length}
use Rattle.c_lexer.specs.declared.Tokens.{Tokens}
use Rattle.c_grammar.specs.declared.trees.Tree.{Tree}
use Rattle.c_parser.specs.c_units.Units.{IsUnit}
use Rattle.c_senses.specs.Names.{source_of, numbered}
use Rattle.c_senses.specs.Sense.{Sense}
use Rattle.c_senses.specs.Rows.{AreSenses}
use Rattle.core_node_laws.specs.count_laws.once_nodes.Once.{BlocksDiffer}

-- functions that are defined by one block are one
abbrev pub UnitsBlocksDiffer : Type 0
UnitsBlocksDiffer =
    (tokens : Tokens) (unit : ℕ) (tree : Tree) (tag_number : ℕ → ℕ) (senses : List Sense)
    → IsUnit tokens unit tree
    → AreSenses (numbered tag_number (source_of tokens tree)) senses
    → length senses ≡ length (numbered tag_number (source_of tokens tree)).nodes
    → BlocksDiffer (numbered tag_number (source_of tokens tree)) senses
