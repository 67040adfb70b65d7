-- The statements and blocks of a parsed tree.
use Rattle.std.proofs.Common.{◌≡◌, ℕ, zero, suc, Bool, true, false, ◌||◌, List, [], ◌∷◌, map, Option, Some, None, slice_get, refl, sym, ap, ◌∙◌, subst, arith}
use Rattle.std.specs.Prelude.{nat_eq}
use Rattle.std.proofs.lemmas.Bool.{eqb-true}
use Rattle.c_lexer.specs.declared.Tokens.{Tokens}
use Rattle.c_grammar.specs.declared.trees.SyntaxNode.{SyntaxNode}
use Rattle.c_grammar.specs.declared.trees.Tree.{Tree}
use Rattle.c_grammar.specs.Names.{no_names}
use Rattle.c_grammar.specs.Productions.{p_unit}
use Rattle.c_grammar.specs.Terminals.{contains}
use Rattle.c_grammar.specs.Reads.{Node, node_of, leaf}
use Rattle.c_parser.specs.Parse.{begin}
use Rattle.c_parser.specs.c_units.Units.{IsUnit}
use Rattle.c_senses.specs.Names.{source_of, numbered}
use Rattle.c_senses.specs.Tree.{production_of, children_of}
use Rattle.parsed_tree_laws.specs.sense_laws.Senses.{StatementGrammar}
use Rattle.parsed_tree_laws.proofs.sense_laws.statement_laws.Rows.{block_children, statement_children}
use Rattle.parsed_tree_laws.proofs.sense_laws.statement_laws.Parts.{IsOf, AreOf, FirstOf, Good, AllGood, opens_good}

-- a node of the tree
good_at : (nodes : List Node) (items : List SyntaxNode) (i : ℕ) (n : SyntaxNode) → AllGood nodes (map node_of items) → slice_get items i ≡ Some n → Good nodes (node_of n)
good_at nodes [] i n g e = cc
good_at nodes (m ∷ items) zero n g e = subst (λ (x : SyntaxNode). Good nodes (node_of x)) (let same : m ≡ n = cc in same) g.0
good_at nodes (m ∷ items) (suc i) n g e = good_at nodes items i n g.1 e

produced : (items : List SyntaxNode) (k : ℕ) (m : Node) → slice_get (map node_of items) k ≡ Some m → production_of (slice_get items k) ≡ m.production
produced [] k m e = cc
produced (x ∷ items) zero m e = let same : node_of x ≡ m = cc in ap (λ (n : Node). n.production) same
produced (x ∷ items) (suc k) m e = produced items k m e

-- the productions that a child may have
child_of : (list : List ℕ) (items : List SyntaxNode) (k : ℕ) → IsOf list (map node_of items) k → contains list (production_of (slice_get items k)) ≡ true
child_of list items k h = subst (λ (p : ℕ). contains list p ≡ true) (sym (produced items k h.0 h.1)) h.2

nth_child : (list : List ℕ) (items : List SyntaxNode) (children : List ℕ) (k c : ℕ) → AreOf list (map node_of items) children → slice_get children k ≡ Some c → contains list (production_of (slice_get items c)) ≡ true
nth_child list items [] k c h e = cc
nth_child list items (x ∷ children) zero c h e = subst (λ (y : ℕ). contains list (production_of (slice_get items y)) ≡ true) (let same : x ≡ c = cc in same) (child_of list items x h.0)
nth_child list items (x ∷ children) (suc k) c h e = nth_child list items children k c h.1 e

first_child : (list : List ℕ) (items : List SyntaxNode) (children : List ℕ) (first : ℕ) (rest : List ℕ) → FirstOf list (map node_of items) children → children ≡ first ∷ rest → contains list (production_of (slice_get items first)) ≡ true
first_child list items children first rest h e = child_of list items first (subst (λ (l : List ℕ). FirstOf list (map node_of items) l) e h)

-- what has a production other than a leaf's is a node of the list
stands : (o : Option SyntaxNode) (p : ℕ) → production_of o ≡ p → (p ≡ leaf → ⊥) → (n : SyntaxNode) × (o ≡ Some n)
stands None p e never = absurd (never (sym e))
stands (Some n) p e never = (n, refl)

-- a production that is one of three, tested in order
one_of_four : (p : ℕ) → contains block_children p ≡ true → (nat_eq p leaf || (nat_eq p 3 || (nat_eq p 4 || nat_eq p 30))) ≡ true
one_of_four p h = by (nat_eq leaf p) (nat_eq 3 p) (nat_eq 30 p) refl refl refl h
  where
    by : (a b c : Bool) → nat_eq leaf p ≡ a → nat_eq 3 p ≡ b → nat_eq 30 p ≡ c → (a || (b || (c || false))) ≡ true → (nat_eq p leaf || (nat_eq p 3 || (nat_eq p 4 || nat_eq p 30))) ≡ true
    by true b c ea eb ec h = subst (λ (x : ℕ). (nat_eq x leaf || (nat_eq x 3 || (nat_eq x 4 || nat_eq x 30))) ≡ true) (eqb-true leaf p ea) refl
    by false true c ea eb ec h = subst (λ (x : ℕ). (nat_eq x leaf || (nat_eq x 3 || (nat_eq x 4 || nat_eq x 30))) ≡ true) (eqb-true 3 p eb) refl
    by false false true ea eb ec h = subst (λ (x : ℕ). (nat_eq x leaf || (nat_eq x 3 || (nat_eq x 4 || nat_eq x 30))) ≡ true) (eqb-true 30 p ec) refl
    by false false false ea eb ec h = cc

block_left : (p : ℕ) → contains statement_children p ≡ true → nat_eq p leaf ≡ false → nat_eq p 31 ≡ false → nat_eq p 29 ≡ true
block_left p h no_leaf no_expression = by (nat_eq leaf p) (nat_eq 31 p) (nat_eq 29 p) refl refl refl h
  where
    by : (a b c : Bool) → nat_eq leaf p ≡ a → nat_eq 31 p ≡ b → nat_eq 29 p ≡ c → (a || (b || (c || false))) ≡ true → nat_eq p 29 ≡ true
    by true b c ea eb ec h = let never : nat_eq leaf leaf ≡ false = subst (λ (x : ℕ). nat_eq x leaf ≡ false) (sym (eqb-true leaf p ea)) no_leaf in cc
    by false true c ea eb ec h = let never : nat_eq 31 31 ≡ false = subst (λ (x : ℕ). nat_eq x 31 ≡ false) (sym (eqb-true 31 p eb)) no_expression in cc
    by false false true ea eb ec h = subst (λ (x : ℕ). nat_eq x 29 ≡ true) (eqb-true 29 p ec) refl
    by false false false ea eb ec h = cc

all_good : (tokens : Tokens) (unit : ℕ) (tree : Tree) → IsUnit tokens unit tree → AllGood (map node_of tree.nodes.items) (map node_of tree.nodes.items)
all_good tokens unit tree is =
    let read = is.0 in
    subst (λ (l : List Node). AllGood l l) read.2 (opens_good tokens.text.now tokens.list.items p_unit 0 (begin 0 no_names []) read.0 read.1 tt)

pub statements_parsed : (tokens : Tokens) (unit : ℕ) (tree : Tree) (tag_number : ℕ → ℕ) → IsUnit tokens unit tree → StatementGrammar (numbered tag_number (source_of tokens tree))
unfolding source_of
statements_parsed tokens unit tree tag_number is = record {
  begins = λ i first rest statement children no_leaf no_expression.
      let items = tree.nodes.items in
      let p = eqb-true (production_of (slice_get items i)) 30 statement in
      let n = stands (slice_get items i) 30 p (λ e. absurd (omega arith)) in
      let g = good_at (map node_of items) items i n.0 (all_good tokens unit tree is) n.1 in
      let own = g.statements (ap production_of (sym n.1) ∙ p) in
      block_left (production_of (slice_get items first)) (first_child statement_children items n.0.children.items first rest own (ap children_of (sym n.1) ∙ children)) no_leaf no_expression;
  blocks = λ i k c block child.
      let items = tree.nodes.items in
      let p = eqb-true (production_of (slice_get items i)) 29 block in
      let n = stands (slice_get items i) 29 p (λ e. absurd (omega arith)) in
      let g = good_at (map node_of items) items i n.0 (all_good tokens unit tree is) n.1 in
      let own = g.blocks (ap production_of (sym n.1) ∙ p) in
      one_of_four (production_of (slice_get items c)) (nth_child block_children items n.0.children.items k c own (subst (λ (o : Option SyntaxNode). slice_get (children_of o) k ≡ Some c) n.1 child));
}
