-- What a parsed unit is to the rows of its statements.
use Rattle.std.specs.Prelude.{ℕ}
use Rattle.c_lexer.specs.declared.Tokens.{Tokens}
use Rattle.c_grammar.specs.declared.trees.Tree.{Tree}
use Rattle.c_parser.specs.c_units.Units.{IsUnit}
use Rattle.c_senses.specs.Names.{source_of, numbered}
use Rattle.parsed_tree_laws.specs.sense_laws.Senses.{StatementGrammar}

-- statements and blocks have the parts that the grammar gives them, whatever the numbers of tags are
abbrev pub StatementsParsed : Type 0
StatementsParsed =
    (tokens : Tokens) (unit : ℕ) (tree : Tree) (tag_number : ℕ → ℕ)
    → IsUnit tokens unit tree
    → StatementGrammar (numbered tag_number (source_of tokens tree))
