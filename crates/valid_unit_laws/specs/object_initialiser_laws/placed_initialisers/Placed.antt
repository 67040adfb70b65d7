-- Where initialisers stand in declarations (C11 6.7, 6.7.9).
use Rattle.std.specs.Prelude.{ℕ, List}
use Rattle.c_lexer.specs.declared.Tokens.{Tokens}
use Rattle.c_lexer.specs.Cut.{IsTokens}
use Rattle.c_grammar.specs.declared.trees.Tree.{Tree}
use Rattle.c_parser.specs.c_units.Units.{IsUnit}
use Rattle.c_senses.specs.Names.{source_of, numbered}
use Rattle.c_senses.specs.Sense.{Sense}
use Rattle.valid_unit_laws.specs.object_initialiser_laws.object_bodies.Objects.{InitialisersPlaced}

-- in each unit that is read, whatever the numbers of tags are
abbrev pub UnitsPlace : Type 0
UnitsPlace =
    (tokens : Tokens) (unit : ℕ) (tree : Tree) (tag_number : ℕ → ℕ) (senses : List Sense)
    → IsTokens tokens.text.now tokens.list.items
    → IsUnit tokens unit tree
    → InitialisersPlaced (numbered tag_number (source_of tokens tree)) senses
