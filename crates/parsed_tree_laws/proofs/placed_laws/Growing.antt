-- What reading and the resolution of names say of a parsed unit's declarators.
use Rattle.std.proofs.Common.{arith, ◌≡◌, ◌+◌, ◌<◌, ℕ, zero, suc, ◌||◌, ◌&&◌, ◌==◌, not, nat_eq, Bool, true, false, List, [], ◌∷◌, map, Option, Some, None, Ok, length, slice_get, refl, sym, ap, ◌∙◌, subst, inl, inr}
use Rattle.std.specs.Prelude.{option_map, if◌then◌else◌}
use Rattle.std.proofs.lemmas.Bool.{eqb-true}
use Rattle.std.proofs.lemmas.Option.{slice_get-map}
use Rattle.c_lexer.specs.declared.Token.{Token}
use Rattle.c_lexer.specs.declared.Tokens.{Tokens}
use Rattle.c_lexer.specs.declared.TokenKind.{TokenKind}
use Rattle.c_lexer.specs.declared.TokenKind.TheVariants.{End}
use Rattle.c_grammar.specs.declared.trees.SyntaxNode.{SyntaxNode}
use Rattle.c_grammar.specs.declared.trees.Tree.{Tree}
use Rattle.c_grammar.specs.Order.{AllBelow, ChildrenFirst, InOrder}
use Rattle.c_grammar.specs.Productions.{p_unit, p_rest, p_field}
use Rattle.c_grammar.specs.Terminals.{contains}
use Rattle.c_grammar.specs.Reads.{State, Node, Opens, node_of, leaf}
use Rattle.c_grammar.proofs.Order.{opens_keep}
use Rattle.c_mentions.specs.Syntax as syntax
use Rattle.c_senses.specs.Names.{source_of, names_of, numbered}
use Rattle.c_senses.specs.Tree.{Source, production_of, children_of, is_a, is_name, is_identifier, kind_of_token, token_of}
use Rattle.parsed_tree_laws.proofs.placed_laws.Rows.{declarators}
use Rattle.parsed_tree_laws.proofs.placed_laws.Once.{parts_of, Part, Sole}
use Rattle.parsed_tree_laws.proofs.placed_laws.Adding.{Is, All}
use Rattle.parsed_tree_laws.proofs.placed_laws.Single as single
use Rattle.parsed_tree_laws.proofs.placed_laws.Trees.{is_no_rest, Good, AllGood, all_read, once_read}
use Rattle.parsed_tree_laws.proofs.placed_laws.Names.{function_named}
use Rattle.parsed_tree_laws.proofs.placed_laws.Names as names
use Rattle.parsed_tree_laws.proofs.placed_laws.Climbing.{Grown, is_other, is_other_in, AllOther, AtMostOne, IsNamedPart}

-- a part stands before its node
below : (bound : ℕ) (list : List ℕ) (c : ℕ) → AllBelow bound list → contains list c ≡ true → c < bound
below bound [] c h e = cc
below bound (x ∷ list) c h e = by (nat_eq x c) refl e (λ d. below bound list c h.1 d)
  where
    by : (b : Bool) → nat_eq x c ≡ b → (b || contains list c) ≡ true → (contains list c ≡ true → c < bound) → c < bound
    by true same e later = subst (λ (y : ℕ). y < bound) (eqb-true x c same) h.0
    by false other e later = later e

first_in : (items : List SyntaxNode) (before i c : ℕ) → ChildrenFirst before (map node_of items) → contains (children_of (slice_get items i)) c ≡ true → c < before + i
first_in [] before i c h e = cc
first_in (n ∷ items) before zero c h e = let lt : c < before = below before n.children.items c h.0 e in omega (arith, lt)
first_in (n ∷ items) before (suc i) c h e = let lt : c < before + 1 + i = first_in items (before + 1) i c h.1 e in omega (arith, lt)

stands_at : (items : List SyntaxNode) (i c : ℕ) → contains (children_of (slice_get items i)) c ≡ true → i < length items
stands_at [] i c e = cc
stands_at (n ∷ items) zero c e = omega arith
stands_at (n ∷ items) (suc i) c e = let lt : i < length items = stands_at items i c e in omega (arith, lt)

-- the nodes of the code's tree as the grammar sees them
parts_same : (o : Option SyntaxNode) → parts_of (option_map node_of o) ≡ children_of o
parts_same None = refl
parts_same (Some n) = refl

part_is : (items : List SyntaxNode) (i c : ℕ) → contains (children_of (slice_get items i)) c ≡ true → Part (map node_of items) i c
part_is items i c h = subst (λ (l : List ℕ). contains l c ≡ true) (sym (ap parts_of (slice_get-map node_of items i) ∙ parts_same (slice_get items i))) h

node_at : (items : List SyntaxNode) (k : ℕ) (n : Node) → slice_get (map node_of items) k ≡ Some n → (m : SyntaxNode) × (slice_get items k ≡ Some m) × (node_of m ≡ n)
node_at [] k n e = cc
node_at (x ∷ items) zero n e = let same : node_of x ≡ n = cc in (x, refl, same)
node_at (x ∷ items) (suc k) n e = node_at items k n e

good_at : (text : List ℕ) (tokens : List Token) (nodes : List Node) (items : List SyntaxNode) (i : ℕ) (n : SyntaxNode) → AllGood text tokens nodes (map node_of items) → slice_get items i ≡ Some n → Good text tokens nodes (node_of n)
good_at text tokens nodes [] i n g e = cc
good_at text tokens nodes (m ∷ items) zero n g e = subst (λ (x : SyntaxNode). Good text tokens nodes (node_of x)) (let same : m ≡ n = cc in same) g.0
good_at text tokens nodes (m ∷ items) (suc i) n g e = good_at text tokens nodes items i n g.1 e

exists_of : (o : Option SyntaxNode) (p : ℕ) → production_of o ≡ p → (p ≡ leaf → ⊥) → (n : SyntaxNode) × (o ≡ Some n)
exists_of None p e never = absurd (never (sym e))
exists_of (Some n) p e never = (n, refl)

declaring_stands : (o : Option SyntaxNode) → contains declarators (production_of o) ≡ true → (n : SyntaxNode) × (o ≡ Some n)
declaring_stands None h = cc
declaring_stands (Some n) h = (n, refl)

module _ (s : Source) (text : List ℕ) where
  abbrev nodes : List Node
  nodes = map node_of s.nodes

  other_is : (k : ℕ) → Is (single.is_other text s.tokens) nodes k → is_other s k ≡ true
  other_is k h =
      let found = node_at s.nodes k h.0 h.1 in
      subst (λ (o : Option SyntaxNode). is_other_in s o ≡ true) (sym found.1) (subst (λ (n : Node). single.is_other text s.tokens n ≡ true) (sym found.2) h.2)

  others_are : (ks : List ℕ) → single.Quiet text s.tokens nodes ks → AllOther s ks
  others_are [] h = tt
  others_are (k ∷ ks) h = (other_is k h.0, others_are ks h.1)

  most_are : (ks : List ℕ) → single.AtMost text s.tokens nodes ks → AtMostOne s ks
  most_are [] h = tt
  most_are (k ∷ ks) (inl h) = inl (others_are ks h)
  most_are (k ∷ ks) (inr h) = inr (other_is k h.0, most_are ks h.1)

  no_rest_at : (k : ℕ) → Is is_no_rest nodes k → is_a s p_rest k ≡ false
  no_rest_at k h =
      let found = node_at s.nodes k h.0 h.1 in
      subst (λ (o : Option SyntaxNode). (production_of o == p_rest) ≡ false) (sym found.1) (turn found.0.production (subst (λ (n : Node). is_no_rest n ≡ true) (sym found.2) h.2))
    where
      turn : (p : ℕ) → not (contains (2 ∷ []) p) ≡ true → (p == p_rest) ≡ false
      turn p h = by (nat_eq p 2) refl
        where
          by : (b : Bool) → nat_eq p 2 ≡ b → b ≡ false
          by false e = refl
          by true e = let h2 : not (contains (2 ∷ []) 2) ≡ true = subst (λ (x : ℕ). not (contains (2 ∷ []) x) ≡ true) (eqb-true p 2 e) h in cc

  no_rest_in : (ks : List ℕ) (c : ℕ) → All is_no_rest nodes ks → contains ks c ≡ true → is_a s p_rest c ≡ false
  no_rest_in [] c h e = cc
  no_rest_in (k ∷ ks) c h e = by (nat_eq k c) refl e (λ d. no_rest_in ks c h.1 d)
    where
      by : (b : Bool) → nat_eq k c ≡ b → (b || contains ks c) ≡ true → (contains ks c ≡ true → is_a s p_rest c ≡ false) → is_a s p_rest c ≡ false
      by true same e later = subst (λ (y : ℕ). is_a s p_rest y ≡ false) (eqb-true k c same) (no_rest_at k h.0)
      by false other e later = later e

  abbrev named : Option Node → Bool
  named o = syntax.is_identifier (if syntax.production_of o == leaf then syntax.token_kind s.tokens (syntax.token_of o) else End)

  -- a name in a declarator, as the rows see it
  name_is : (r : ℕ) → syntax.is_name s.tokens nodes r ≡ true → is_name s r ≡ true
  name_is r h = by (slice_get s.nodes r) (subst (λ (o : Option Node). named o ≡ true) (slice_get-map node_of s.nodes r) h)
    where
      seen : (b : Bool) (k : TokenKind) → is_identifier (if b then k else End) ≡ true → (b && is_identifier k) ≡ true
      seen true k h = h
      seen false k h = cc

      by : (o : Option SyntaxNode) → named (option_map node_of o) ≡ true → ((production_of o == leaf) && is_identifier (kind_of_token (token_of s o))) ≡ true
      by None h = cc
      by (Some n) h = seen (n.production == leaf) (syntax.token_kind s.tokens n.token) h

  named_is : (r : ℕ) → names.IsNamedPart s.tokens nodes r → IsNamedPart s r
  named_is r (i, is, child, name) =
      let at = by (slice_get s.nodes i) (subst (λ (o : Option Node). contains declarators (syntax.production_of o) ≡ true) (slice_get-map node_of s.nodes i) is) (subst (λ (o : Option Node). contains (syntax.children_of o) r ≡ true) (slice_get-map node_of s.nodes i) child) in
      (i, at.0, at.1, name_is r name)
    where
      by : (o : Option SyntaxNode) → contains declarators (syntax.production_of (option_map node_of o)) ≡ true → contains (syntax.children_of (option_map node_of o)) r ≡ true → (contains declarators (production_of o) ≡ true) × (contains (children_of o) r ≡ true)
      by None h c = cc
      by (Some n) h c = (h, c)

pub grown_read : (tokens : Tokens) (tree : Tree) (tag_number : ℕ → ℕ) (start st : State) → start.nodes ≡ [] → start.children ≡ [] → Opens tokens.text.now tokens.list.items p_unit 0 start (Ok st) → st.nodes ≡ map node_of tree.nodes.items
    → Grown (numbered tag_number (source_of tokens tree))
unfolding source_of names_of
grown_read tokens tree tag_number start st none no_children opens nodes_are =
    let text = tokens.text.now in
    let list = tokens.list.items in
    let items = tree.nodes.items in
    let s : Source = numbered tag_number (source_of tokens tree) in
    let good : AllGood text list (map node_of items) (map node_of items) = subst (λ (l : List Node). AllGood text list l l) nodes_are (all_read text list p_unit 0 start st none opens) in
    let sole : Sole (map node_of items) st.children = subst (λ (l : List Node). Sole l st.children) nodes_are (once_read text list p_unit 0 start st none no_children opens) in
    let begins : InOrder start =
    subst (λ (l : List Node). ChildrenFirst 0 l × AllBelow (length l) start.children) (sym none) (subst (λ (l : List ℕ). ChildrenFirst 0 [] × AllBelow 0 l) (sym no_children) (tt, tt)) in
    let order : ChildrenFirst 0 (map node_of items) = subst (λ (l : List Node). ChildrenFirst 0 l) nodes_are ((opens_keep text list p_unit 0 start (Ok st) opens st refl).1 begins).0 in
    record {
      before = λ i c h. let lt : c < 0 + i = first_in items 0 i c order h in omega (arith, lt);
      within = λ i c h. stands_at items i c h;
      once = λ i j c p q. sole.once i j c (part_is items i c p) (part_is items j c q);
      one = λ i h.
          let n = declaring_stands (slice_get items i) h in
          let g = good_at text list (map node_of items) items i n.0 good n.1 in
          let own = g.declarator (subst (λ (o : Option SyntaxNode). contains declarators (production_of o) ≡ true) n.1 h) in
          subst (λ (o : Option SyntaxNode). AtMostOne s (children_of o)) (sym n.1) (most_are s text n.0.children.items own);
      field = λ i c h e.
          let p = eqb-true (production_of (slice_get items i)) p_field h in
          let n = exists_of (slice_get items i) p_field p (λ never. absurd (omega arith)) in
          let g = good_at text list (map node_of items) items i n.0 good n.1 in
          let own = g.field (ap production_of (sym n.1) ∙ p) in
          no_rest_in s text n.0.children.items c own (subst (λ (o : Option SyntaxNode). contains (children_of o) c ≡ true) n.1 e);
      named = λ r y at function. named_is s text r (function_named text list (map node_of items) r y at function);
    }
