-- The code's nodes, and the nodes as the grammar sees them.
use Rattle.std.proofs.Common.{◌≡◌, ℕ, zero, suc, List, [], ◌∷◌, length, get_or, refl}
use Rattle.std.proofs.lemmas.List.{length-map}
use Rattle.c_grammar.specs.declared.trees.SyntaxNode.{SyntaxNode}
use Rattle.c_grammar.specs.Reads.{node_of}
use Rattle.c_mentions.specs.Syntax.{nodes_of}

pub length-nodes_of : (nodes : List SyntaxNode) → length (nodes_of nodes) ≡ length nodes
length-nodes_of nodes = length-map nodes node_of

pub get_or-nodes_of : (nodes : List SyntaxNode) (n : ℕ) (d : SyntaxNode) → get_or (nodes_of nodes) n (node_of d) ≡ node_of (get_or nodes n d)
get_or-nodes_of [] n d = refl
get_or-nodes_of (x ∷ nodes) zero d = refl
get_or-nodes_of (x ∷ nodes) (suc n) d = get_or-nodes_of nodes n d
