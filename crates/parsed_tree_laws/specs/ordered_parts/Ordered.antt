-- What stands beneath the nodes of a parsed tree, and in which order.
use Rattle.std.specs.Prelude.{ℕ, ◌≡◌, ◌<◌, Some, slice_get}
use Rattle.c_lexer.specs.declared.Tokens.{Tokens}
use Rattle.c_grammar.specs.declared.trees.Tree.{Tree}
use Rattle.c_parser.specs.c_units.Units.{IsUnit}
use Rattle.c_senses.specs.Names.{source_of, numbered}
use Rattle.c_senses.specs.Tree.{Source, children_at}

-- a node is a child of another one
abbrev pub IsPart : Source → ℕ → ℕ → Type 0
IsPart s i c = (k : ℕ) × (slice_get (children_at s i) k ≡ Some c)

-- a node, and what is a child of what stands beneath it
pub data Beneath (s : Source) (top : ℕ) : ℕ → Type 0 where
  itself : Beneath s top top
  under : {q c : ℕ} → IsPart s q c → Beneath s top q → Beneath s top c

-- what stands beneath a child comes behind the children before it
pub record Follows (s : Source) : Type 0 where
  pub follows : (i x y e : ℕ) → IsPart s i x → IsPart s i y → x < y → Beneath s y e → x < e

-- so it is in each unit that is read, whatever the numbers of tags are
abbrev pub PartsFollow : Type 0
PartsFollow =
    (tokens : Tokens) (unit : ℕ) (tree : Tree) (tag_number : ℕ → ℕ)
    → IsUnit tokens unit tree
    → Follows (numbered tag_number (source_of tokens tree))
