-- The list of a parsed tree is in order.
use Rattle.std.proofs.Common.{arith, ◌≡◌, ℕ, zero, suc, ◌+◌, ◌<◌, List, [], ◌∷◌, map, Some, Ok, slice_get, refl, subst}
use Rattle.c_lexer.specs.declared.Tokens.{Tokens}
use Rattle.c_grammar.specs.declared.trees.SyntaxNode.{SyntaxNode}
use Rattle.c_grammar.specs.declared.trees.Tree.{Tree}
use Rattle.c_grammar.specs.Names.{no_names}
use Rattle.c_grammar.specs.Order.{AllBelow, ChildrenFirst as InOrderFrom}
use Rattle.c_grammar.specs.Productions.{p_unit}
use Rattle.c_grammar.specs.Reads.{Node, node_of}
use Rattle.c_grammar.proofs.Order.{opens_keep}
use Rattle.c_parser.specs.Parse.{begin}
use Rattle.c_parser.specs.c_units.Units.{IsUnit}
use Rattle.c_senses.specs.Names.{source_of, numbered}
use Rattle.c_senses.specs.Tree.{children_of}
use Rattle.parsed_tree_laws.specs.sense_laws.Senses.{ChildrenFirst}

below : (bound : ℕ) (list : List ℕ) (k c : ℕ) → AllBelow bound list → slice_get list k ≡ Some c → c < bound
below bound [] k c h e = cc
below bound (x ∷ list) zero c h e = subst (λ (y : ℕ). y < bound) (let same : x ≡ c = cc in same) h.0
below bound (x ∷ list) (suc k) c h e = below bound list k c h.1 e

first_in : (items : List SyntaxNode) (before i k c : ℕ) → InOrderFrom before (map node_of items) → slice_get (children_of (slice_get items i)) k ≡ Some c → c < before + i
first_in [] before i k c h e = cc
first_in (n ∷ items) before zero k c h e = let lt : c < before = below before n.children.items k c h.0 e in omega (arith, lt)
first_in (n ∷ items) before (suc i) k c h e = let lt : c < before + 1 + i = first_in items (before + 1) i k c h.1 e in omega (arith, lt)

in_order : (tokens : Tokens) (unit : ℕ) (tree : Tree) → IsUnit tokens unit tree → InOrderFrom 0 (map node_of tree.nodes.items)
in_order tokens unit tree is =
    let read = is.0 in
    subst (λ (l : List Node). InOrderFrom 0 l) read.2 ((opens_keep tokens.text.now tokens.list.items p_unit 0 (begin 0 no_names []) (Ok read.0) read.1 read.0 refl).1 (tt, tt)).0

pub children_first : (tokens : Tokens) (unit : ℕ) (tree : Tree) (tag_number : ℕ → ℕ) → IsUnit tokens unit tree → ChildrenFirst (numbered tag_number (source_of tokens tree))
unfolding source_of
children_first tokens unit tree tag_number is i k c e = let lt : c < 0 + i = first_in tree.nodes.items 0 i k c (in_order tokens unit tree is) e in omega (arith, lt)
