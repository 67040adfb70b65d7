-- What a parsed unit is to the rows of its tree.
use Rattle.std.specs.Prelude.{ℕ}
use Rattle.c_lexer.specs.declared.Tokens.{Tokens}
use Rattle.c_grammar.specs.declared.trees.Tree.{Tree}
use Rattle.c_parser.specs.c_units.Units.{IsUnit}
use Rattle.c_senses.specs.Names.{source_of, numbered}
use Rattle.c_lexer.specs.Cut.{IsTokens}
use Rattle.parsed_tree_laws.specs.sense_laws.Senses.{ChildrenFirst, ConstantsFit}

-- each part of a node stands before it, whatever the numbers of tags are
abbrev pub ParsedInOrder : Type 0
ParsedInOrder =
    (tokens : Tokens) (unit : ℕ) (tree : Tree) (tag_number : ℕ → ℕ)
    → IsUnit tokens unit tree
    → ChildrenFirst (numbered tag_number (source_of tokens tree))

-- each integer constant of a text that is cut into tokens has a value that some type holds
abbrev pub CutConstantsFit : Type 0
CutConstantsFit =
    (tokens : Tokens) (tree : Tree) (tag_number : ℕ → ℕ)
    → IsTokens tokens.text.now tokens.list.items
    → ConstantsFit (numbered tag_number (source_of tokens tree))
