-- Nodes that are seen alike are the same, and so are the trees of one text.
use Rattle.std.proofs.Common.{arith, ◌≡◌, ℕ, List, [], ◌∷◌, map, length, Ok, Result, refl, sym, ap, ◌∙◌, subst}
use Rattle.c_lexer.specs.declared.Token.{Token}
use Rattle.c_lexer.specs.declared.Tokens.{Tokens}
use Rattle.c_lexer.proofs.OneCut.{one_cut}
use Rattle.c_grammar.specs.declared.trees.SyntaxNode.{SyntaxNode}
use Rattle.c_grammar.specs.declared.trees.Tree.{Tree}
use Rattle.c_grammar.specs.Names.{no_names}
use Rattle.c_grammar.specs.Productions.{p_unit}
use Rattle.c_grammar.specs.Reads.{State, Fault, Node, Opens, node_of}
use Rattle.c_grammar.proofs.Unique.{opens_one}
use Rattle.c_parser.specs.Parse.{begin}
use Rattle.c_mentions.specs.Syntax.{nodes_of}
use Rattle.c_scope.specs.Resolves.{bindings}
use Rattle.c_senses.specs.Tree.{Source}
use Rattle.c_senses.specs.Names.{names_of, source_of}
use Rattle.parsed_tree_laws.specs.reading_laws.Reading.{OneTree}

made : ℕ → ℕ → List ℕ → SyntaxNode
made production token list = record { production = production; token = token; children = record { items = list } }

is_made : (n : SyntaxNode) → n ≡ made n.production n.token n.children.items
unfolding made
is_made n = refl

same_node : (n m : SyntaxNode) → node_of n ≡ node_of m → n ≡ m
same_node n m e =
    is_made n
    ∙ (ap (λ (x : Node). made x.production x.token x.children) e ∙ sym (is_made m))

head_same : (x y : Node) (xs ys : List Node) → x ∷ xs ≡ y ∷ ys → x ≡ y
head_same x y xs ys e = cc

rest_same : (x y : Node) (xs ys : List Node) → x ∷ xs ≡ y ∷ ys → xs ≡ ys
rest_same x y xs ys e = cc

same_nodes : (xs ys : List SyntaxNode) → map node_of xs ≡ map node_of ys → xs ≡ ys
same_nodes [] [] e = refl
same_nodes [] (y ∷ ys) e = absurd (cc)
same_nodes (x ∷ xs) [] e = absurd (cc)
same_nodes (x ∷ xs) (y ∷ ys) e =
    let here : x ≡ y = same_node x y (head_same (node_of x) (node_of y) (map node_of xs) (map node_of ys) e) in
    let rest : xs ≡ ys = same_nodes xs ys (rest_same (node_of x) (node_of y) (map node_of xs) (map node_of ys) e) in
    ap (λ (n : SyntaxNode). n ∷ xs) here ∙ ap (λ (ns : List SyntaxNode). y ∷ ns) rest

-- a list of tokens is read in one way
same_state : (text other : List ℕ) (list there : List Token) (s t : State) → text ≡ other → list ≡ there → Opens text list p_unit 0 (begin 0 no_names []) (Ok s) → Opens other there p_unit 0 (begin 0 no_names []) (Ok t) → s ≡ t
same_state text other list there s t e f h k =
    let P : List ℕ → Type 0 = λ x. Opens x list p_unit 0 (begin 0 no_names []) (Ok s) in
    let Q : List Token → Type 0 = λ l. Opens other l p_unit 0 (begin 0 no_names []) (Ok s) in
    let both : ◌≡◌ {A = Result State Fault} (Ok s) (Ok t) = opens_one other there _ _ _ _ (subst Q f (subst P e h)) _ k in cc

-- the source, by what it is made of
source_from : ℕ → List ℕ → List Token → List SyntaxNode → Source
source_from unit text list nodes = record {
  unit = unit;
  text = text;
  tokens = list;
  nodes = nodes;
  uses = (bindings text list (nodes_of nodes)).uses;
  declared = names_of text list nodes;
  tag_number = λ node. node;
}

made_from : (tokens : Tokens) (tree : Tree) → source_of tokens tree ≡ source_from tree.unit tokens.text.now tokens.list.items tree.nodes.items
unfolding source_from source_of
made_from tokens tree = refl

same_source : (tokens other : Tokens) (tree there : Tree) → tokens.text.now ≡ other.text.now → tokens.list.items ≡ other.list.items → tree.nodes.items ≡ there.nodes.items → tree.unit ≡ there.unit → source_of tokens tree ≡ source_of other there
same_source tokens other tree there text list nodes unit =
    made_from tokens tree
    ∙ (ap (λ (u : ℕ). source_from u tokens.text.now tokens.list.items tree.nodes.items) unit
    ∙ (ap (λ (x : List ℕ). source_from there.unit x tokens.list.items tree.nodes.items) text
    ∙ (ap (λ (l : List Token). source_from there.unit other.text.now l tree.nodes.items) list
    ∙ (ap (source_from there.unit other.text.now other.list.items) nodes ∙ sym (made_from other there)))))

pub one_tree : OneTree
one_tree text unit tokens other tree there h k =
    let list : tokens.list.items ≡ other.list.items = one_cut.tokens text tokens.list.items other.list.items h.tokens_are k.tokens_are in
    let bytes : tokens.text.now ≡ other.text.now = h.text_is ∙ sym k.text_is in
    let state : h.tree_is.0.0 ≡ k.tree_is.0.0 = same_state tokens.text.now other.text.now tokens.list.items other.list.items h.tree_is.0.0 k.tree_is.0.0 bytes list h.tree_is.0.1 k.tree_is.0.1 in
    let seen : map node_of tree.nodes.items ≡ map node_of there.nodes.items = sym h.tree_is.0.2 ∙ (ap (λ (s : State). s.nodes) state ∙ k.tree_is.0.2) in
    let nodes : tree.nodes.items ≡ there.nodes.items = same_nodes tree.nodes.items there.nodes.items seen in
    let many : length tree.nodes.items ≡ length there.nodes.items = ap (length) nodes in
    let unit_is : tree.unit ≡ there.unit = h.tree_is.1 ∙ sym k.tree_is.1 in
    let last = h.tree_is.2 in
    let other_last = k.tree_is.2 in
    record {
      tokens_same = list;
      nodes_same = nodes;
      root_same = omega (arith, many, last, other_last);
      unit_same = unit_is;
      source_same = same_source tokens other tree there bytes list nodes unit_is;
    }
