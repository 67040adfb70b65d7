-- Functions that a text defines with () have no parameters (C11 6.7.6.3p14).
use Rattle.std.specs.Prelude.{ℕ, List}
use Rattle.c_lexer.specs.declared.Tokens.{Tokens}
use Rattle.c_lexer.specs.Cut.{IsTokens}
use Rattle.c_grammar.specs.declared.trees.Tree.{Tree}
use Rattle.c_parser.specs.c_units.Units.{IsUnit}
use Rattle.core_tree.specs.declared.node.Unit.{Unit}
use Rattle.core_tree.specs.Typed.{trees_of}
use Rattle.c_senses.specs.Names.{source_of, numbered}
use Rattle.c_senses.specs.Right.{Right}
use Rattle.linked_laws.specs.alike_laws.Plain.{DefinesPlain}

-- so it is in each unit that is right for a text that is cut and read
abbrev pub FunctionsPlain : Type 0
FunctionsPlain =
    (tokens : Tokens) (unit : ℕ) (tree : Tree) (tag_number : ℕ → ℕ) (name : List ℕ) (u : Unit)
    → IsTokens tokens.text.now tokens.list.items
    → IsUnit tokens unit tree
    → Right (numbered tag_number (source_of tokens tree)) name u
    → DefinesPlain (trees_of u)
