-- Strings, calls and compound literals of a unit that is right for a parsed tree are told apart.
use Rattle.std.specs.Prelude.{ℕ, ◌≡◌, List, Some, slice_get}
use Rattle.c_lexer.specs.declared.Tokens.{Tokens}
use Rattle.c_lexer.specs.Cut.{IsTokens}
use Rattle.c_grammar.specs.declared.trees.Tree.{Tree}
use Rattle.c_parser.specs.c_units.Units.{IsUnit}
use Rattle.core_tree.specs.declared.node.Unit.{Unit}
use Rattle.core_tree.specs.declared.node.Node.{Node}
use Rattle.core_tree.specs.declared.node.NodeKind.TheVariants.{Text, Literal, CallNode}
use Rattle.c_senses.specs.Names.{source_of, numbered}
use Rattle.c_senses.specs.Right.{Right}

-- two nodes of a unit
pub record AreNodes (u : Unit) (n m : ℕ) (a b : Node) : Type 0 where
  pub first : slice_get u.nodes.items n ≡ Some a
  pub second : slice_get u.nodes.items m ≡ Some b

-- strings at one place are one, so are calls, and one node makes a compound literal's object
pub record NodesDiffer (u : Unit) : Type 0 where
  pub text : (n m : ℕ) (a b : Node) (bytes others : List ℕ)
      → AreNodes u n m a b
      → a.kind ≡ Text bytes
      → b.kind ≡ Text others
      → a.place.line ≡ b.place.line
      → a.place.column ≡ b.place.column
      → n ≡ m
  pub call : (n m : ℕ) (a b : Node)
      → AreNodes u n m a b
      → a.kind ≡ CallNode
      → b.kind ≡ CallNode
      → a.place.line ≡ b.place.line
      → a.place.column ≡ b.place.column
      → n ≡ m
  pub literal : (n m e : ℕ) (a b : Node) → AreNodes u n m a b → a.kind ≡ Literal e → b.kind ≡ Literal e → n ≡ m

abbrev pub RightNodesOnce : Type 0
RightNodesOnce =
    (tokens : Tokens) (unit : ℕ) (tree : Tree) (tag_number : ℕ → ℕ) (name : List ℕ) (u : Unit)
    → IsTokens tokens.text.now tokens.list.items
    → IsUnit tokens unit tree
    → Right (numbered tag_number (source_of tokens tree)) name u
    → NodesDiffer u
