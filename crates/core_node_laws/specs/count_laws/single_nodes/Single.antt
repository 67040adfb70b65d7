-- Strings, calls and compound literals of a parsed unit are told apart by their places and by their entities.
use Rattle.std.specs.Prelude.{ℕ, ◌≡◌, ◌<◌, List, Some, length, slice_get}
use Rattle.c_lexer.specs.declared.Tokens.{Tokens}
use Rattle.c_lexer.specs.Cut.{IsTokens}
use Rattle.c_grammar.specs.declared.trees.Tree.{Tree}
use Rattle.c_parser.specs.c_units.Units.{IsUnit}
use Rattle.core_tree.specs.declared.node.Unit.{Unit}
use Rattle.core_tree.specs.declared.node.Node.{Node}
use Rattle.core_tree.specs.declared.node.NodeKind.TheVariants.{Text, Literal, CallNode}
use Rattle.c_senses.specs.Names.{source_of, numbered}
use Rattle.c_senses.specs.Sense.{Sense}
use Rattle.c_senses.specs.Right.{Numbering}
use Rattle.core_node_laws.specs.count_laws.once_nodes.Once.{IsLaid}

-- strings at one place are one
abbrev pub TextsOnce : Type 0
TextsOnce =
    (tokens : Tokens) (unit : ℕ) (tree : Tree) (tag_number : ℕ → ℕ) (senses : List Sense)
    (numbering : Numbering) (u : Unit)
    → IsTokens tokens.text.now tokens.list.items
    → IsUnit tokens unit tree
    → IsLaid (numbered tag_number (source_of tokens tree)) senses numbering u
    → (n m : ℕ) (a b : Node) (bytes others : List ℕ)
    → slice_get u.nodes.items n ≡ Some a
    → slice_get u.nodes.items m ≡ Some b
    → a.kind ≡ Text bytes
    → b.kind ≡ Text others
    → a.place.line ≡ b.place.line
    → a.place.column ≡ b.place.column
    → n ≡ m

-- so are calls
abbrev pub CallsOnce : Type 0
CallsOnce =
    (tokens : Tokens) (unit : ℕ) (tree : Tree) (tag_number : ℕ → ℕ) (senses : List Sense)
    (numbering : Numbering) (u : Unit)
    → IsTokens tokens.text.now tokens.list.items
    → IsUnit tokens unit tree
    → IsLaid (numbered tag_number (source_of tokens tree)) senses numbering u
    → (n m : ℕ) (a b : Node)
    → slice_get u.nodes.items n ≡ Some a
    → slice_get u.nodes.items m ≡ Some b
    → a.kind ≡ CallNode
    → b.kind ≡ CallNode
    → a.place.line ≡ b.place.line
    → a.place.column ≡ b.place.column
    → n ≡ m

-- and one node makes the object of a compound literal
abbrev pub LiteralsOnce : Type 0
LiteralsOnce =
    (tokens : Tokens) (unit : ℕ) (tree : Tree) (tag_number : ℕ → ℕ) (senses : List Sense)
    (numbering : Numbering) (u : Unit)
    → IsTokens tokens.text.now tokens.list.items
    → IsUnit tokens unit tree
    → IsLaid (numbered tag_number (source_of tokens tree)) senses numbering u
    → (n m e : ℕ) (a b : Node)
    → e < length u.entities.items
    → slice_get u.nodes.items n ≡ Some a
    → slice_get u.nodes.items m ≡ Some b
    → a.kind ≡ Literal e
    → b.kind ≡ Literal e
    → n ≡ m
