-- Parsed units that are right.
use Rattle.std.specs.Prelude.{ℕ, List}
use Rattle.c_lexer.specs.declared.Tokens.{Tokens}
use Rattle.c_grammar.specs.declared.trees.Tree.{Tree}
use Rattle.c_parser.specs.c_units.Units.{IsUnit}
use Rattle.link_model.specs.filled_units.PassedOn.{Unit}
use Rattle.c_senses.specs.Names.{source_of, numbered}
use Rattle.c_senses.specs.Right.{Right}
use Rattle.link_model.specs.filled_units.Filled.{IsFilled}

-- what is right for a parsed unit initialises only objects that it defines, whatever the numbers of tags are
abbrev pub UnitsAreFilled : Type 0
UnitsAreFilled =
    (tokens : Tokens) (unit : ℕ) (tree : Tree) (tag_number : ℕ → ℕ) (name : List ℕ) (u : Unit)
    → IsUnit tokens unit tree
    → Right (numbered tag_number (source_of tokens tree)) name u
    → IsFilled u
