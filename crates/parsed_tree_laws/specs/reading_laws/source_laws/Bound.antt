-- Names that are declared at nodes.
use Rattle.std.specs.Prelude.{ℕ, ◌≡◌, ◌<◌, All, List, length, slice_get, Some}
use Rattle.c_lexer.specs.declared.Tokens.{Tokens}
use Rattle.c_grammar.specs.declared.trees.SyntaxNode.{SyntaxNode}
use Rattle.c_grammar.specs.declared.trees.Tree.{Tree}
use Rattle.c_scope.specs.declared.resolving.Bound.{Bound}
use Rattle.c_scope.specs.Resolves.{IsBound}
use Rattle.c_senses.specs.Tree.{children_of}

-- each child of a node has a smaller number
abbrev pub AreBefore : List SyntaxNode → Type 0
AreBefore nodes = (i k c : ℕ) → slice_get (children_of (slice_get nodes i)) k ≡ Some c → c < i

-- each name and each tag is declared at one of so many nodes, and each use is paired with one
pub record StandAmong (count : ℕ) (bound : Bound) : Type 0 where
  pub names : All (λ d. d.node < count) bound.names.items
  pub tags : All (λ d. d.node < count) bound.tags.items
  pub uses : All (λ p. p.1 < count) bound.uses.items

abbrev pub BoundNamesStand : Type 0
BoundNamesStand =
    (tokens : Tokens) (tree : Tree) (bound : Bound)
    → IsBound tokens tree bound
    → AreBefore tree.nodes.items
    → StandAmong (length tree.nodes.items) bound
