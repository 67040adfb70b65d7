-- A text is read in one way.
use Rattle.std.specs.Prelude.{ℕ, ◌≡◌, List}
use Rattle.c_lexer.specs.declared.Tokens.{Tokens}
use Rattle.c_lexer.specs.Cut.{IsTokens}
use Rattle.c_grammar.specs.declared.trees.Tree.{Tree}
use Rattle.c_parser.specs.c_units.Units.{IsUnit}
use Rattle.c_senses.specs.Names.{source_of}

-- the tokens are those of the text, and the tree is that of a unit of that number
pub record IsRead (text : List ℕ) (unit : ℕ) (tokens : Tokens) (tree : Tree) : Type 0 where
  pub text_is : tokens.text.now ≡ text
  pub tokens_are : IsTokens text tokens.list.items
  pub tree_is : IsUnit tokens unit tree

-- two readings have the same tokens, the same tree and the same source
pub record AreOne (tokens other : Tokens) (tree there : Tree) : Type 0 where
  pub tokens_same : tokens.list.items ≡ other.list.items
  pub nodes_same : tree.nodes.items ≡ there.nodes.items
  pub root_same : tree.root ≡ there.root
  pub unit_same : tree.unit ≡ there.unit
  pub source_same : source_of tokens tree ≡ source_of other there

abbrev pub OneTree : Type 0
OneTree =
    (text : List ℕ) (unit : ℕ) (tokens other : Tokens) (tree there : Tree)
    → IsRead text unit tokens tree
    → IsRead text unit other there
    → AreOne tokens other tree there
