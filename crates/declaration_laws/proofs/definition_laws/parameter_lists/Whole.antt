-- Each parameter has a parent, and that is a list.
use Rattle.std.proofs.Common.{arith, ◌≡◌, ◌<◌, ◌≤◌, ◌||◌, nat_eq, nat_lt, ℕ, zero, suc, Bool, true, false, List, [], ◌∷◌, map, Option, Some, None, length, slice_get, refl, sym, ap, ◌∙◌, subst, ◌⊎◌, inl, inr, All as AllOf}
use Rattle.std.proofs.lemmas.Bool.{eqb-true, eqb-false, ltb-true, ltb-false}
use Rattle.std.proofs.lemmas.Option.{slice_get_within, get_or_from_slice_get}
use Rattle.c_lexer.specs.declared.Token.{Token}
use Rattle.c_lexer.specs.declared.Tokens.{Tokens}
use Rattle.c_lexer.specs.Cut.{IsTokens}
use Rattle.c_lexer.specs.Laws.{Stands}
use Rattle.c_lexer.proofs.OneCut.{stand}
use Rattle.c_grammar.specs.declared.trees.SyntaxNode.{SyntaxNode}
use Rattle.c_grammar.specs.declared.trees.Tree.{Tree as SyntaxTree}
use Rattle.c_grammar.specs.Names.{no_names}
use Rattle.c_grammar.specs.Productions.{p_unit, p_suffix, p_parameter}
use Rattle.c_grammar.specs.Tree.{makes_node}
use Rattle.c_grammar.specs.Terminals.{contains}
use Rattle.c_grammar.specs.Reads.{Node, node_of}
use Rattle.c_parser.specs.Parse.{begin}
use Rattle.c_parser.specs.c_units.Units.{IsUnit}
use Rattle.c_mentions.specs.Declarators.{is_list}
use Rattle.c_senses.specs.Names.{source_of, numbered}
use Rattle.c_senses.specs.Tree.{Source, production_of, children_of, children_at, is_a}
use Rattle.core_node_laws.proofs.count_laws.passed.parsed_tree_laws.placed_laws.Adding.{All}
use Rattle.declaration_laws.proofs.definition_laws.function_definitions.Mentioned.{listed_is}
use Rattle.core_node_laws.specs.count_laws.passed.parsed_tree_laws.span_laws.Spans.{Spans, Runs, over, no_more, one_more, Spanned}
use Rattle.core_node_laws.proofs.count_laws.passed.parsed_tree_laws.span_laws.Whole.{units_are_spanned}
use Rattle.declaration_laws.specs.definition_laws.scope_laws.Scoped.{IsPart, ParametersListed}
use Rattle.declaration_laws.specs.definition_laws.parameter_lists.Parameters.{UnitsList}
use Rattle.declaration_laws.proofs.definition_laws.parameter_lists.Rows.{free}
use Rattle.declaration_laws.proofs.definition_laws.parameter_lists.Shapes.{no_parameter, Begins, Good, all_good, last_is}

-- ---- parents

module _ (s : Source) where
  equal : (x : ℕ) → nat_eq x x ≡ true
  equal x = by (nat_eq x x) refl
    where
      by : (b : Bool) → nat_eq x x ≡ b → b ≡ true
      by true e = refl
      by false e = absurd (eqb-false x x e refl)

  or_more : (a b : Bool) → b ≡ true → (a || b) ≡ true
  or_more true b e = refl
  or_more false b e = e

  abbrev HasParent : ℕ → Type 0
  HasParent x = (i : ℕ) × IsPart s i x

  own_or : (x i : ℕ) → x ≤ i → (x < i → HasParent x) → (x ≡ i) ⊎ HasParent x
  own_or x i below later = by (nat_eq x i) refl
    where
      by : (b : Bool) → nat_eq x i ≡ b → (x ≡ i) ⊎ HasParent x
      by true e = inl (eqb-true x i e)
      by false e = inr (later (let apart = eqb-false x i e in omega (arith, below, apart)))

  here_or : (x c p : ℕ) → (x ≤ c → (x ≡ c) ⊎ HasParent x) → IsPart s p c → (c < x → HasParent x) → HasParent x
  here_or x c p own child later = by (nat_lt c x) refl
    where
      pick : (x ≡ c) ⊎ HasParent x → HasParent x
      pick (inl same) = (p, subst (λ (k : ℕ). IsPart s p k) (sym same) child)
      pick (inr h) = h

      by : (b : Bool) → nat_lt c x ≡ b → HasParent x
      by true e = later (ltb-true c x e)
      by false e = pick (own (ltb-false c x e))

  mutual
    -- a number of a node's span is its own or a part's
    in_span : (low i x : ℕ) → Spans s low i → low ≤ x → x ≤ i → (x ≡ i) ⊎ HasParent x
    in_span low i x (over runs) above below = own_or x i below (λ lt. in_runs low i x i (children_at s i) runs (λ c h. h) above lt)

    in_runs : (low high x p : ℕ) (list : List ℕ) → Runs s low list high → ((c : ℕ) → contains list c ≡ true → IsPart s p c) → low ≤ x → x < high → HasParent x
    in_runs low high x p [] no_more parts above below = absurd (omega (arith, above, below))
    in_runs low high x p (c ∷ rest) (one_more span more) parts above below =
        here_or x c p (λ le. in_span low c x span above le) (parts c (ap (λ (b : Bool). b || contains rest c) (equal c)))
        (λ lt. in_runs (suc c) high x p rest more (λ d h. parts d (or_more (nat_eq c d) (contains rest d) h)) (omega (arith, lt)) below)

-- ---- what the parts are

token_has : (P : Token → Type 0) (list : List Token) (k : ℕ) (t : Token) → AllOf P list → slice_get list k ≡ Some t → P t
token_has P list k t h e = subst P (get_or_from_slice_get list k t t e) (h k t (slice_get_within list k t e))

stand_all : (tokens : Tokens) → IsTokens tokens.text.now tokens.list.items → (k : ℕ) (t : Token) → slice_get tokens.list.items k ≡ Some t → Stands tokens.text.now t
stand_all tokens cut k t e = token_has (Stands tokens.text.now) tokens.list.items k t (stand tokens.text.now tokens.list.items cut) e

there_node : (items : List SyntaxNode) (k : ℕ) (n : SyntaxNode) → slice_get items k ≡ Some n → slice_get (map node_of items) k ≡ Some (node_of n)
there_node [] k n e = cc
there_node (x ∷ items) zero n e = let same : x ≡ n = cc in ap (λ (m : SyntaxNode). Some (node_of m)) same
there_node (x ∷ items) (suc k) n e = there_node items k n e

produced : (items : List SyntaxNode) (k : ℕ) (m : Node) → slice_get (map node_of items) k ≡ Some m → production_of (slice_get items k) ≡ m.production
produced [] k m e = cc
produced (x ∷ items) zero m e = let same : node_of x ≡ m = cc in ap (λ (n : Node). n.production) same
produced (x ∷ items) (suc k) m e = produced items k m e

-- of some parts one that isn't free
never : (items : List SyntaxNode) (ks : List ℕ) (c : ℕ) → All no_parameter (map node_of items) ks → contains ks c ≡ true → production_of (slice_get items c) ≡ 23 → ⊥
never items [] c h e is = cc
never items (k ∷ ks) c h e is = by (nat_eq k c) refl e (λ f. never items ks c h.1 f is)
  where
    by : (b : Bool) → nat_eq k c ≡ b → (b || contains ks c) ≡ true → (contains ks c ≡ true → ⊥) → ⊥
    by true same f later =
        let own : free (production_of (slice_get items k)) ≡ true = subst (λ (q : ℕ). free q ≡ true) (sym (produced items k h.0.0 h.0.1)) h.0.2 in
        let there : free (production_of (slice_get items c)) ≡ true = subst (λ (x : ℕ). free (production_of (slice_get items x)) ≡ true) (eqb-true k c same) own in
        let bad : free 23 ≡ true = subst (λ (q : ℕ). free q ≡ true) is there in
        cc
    by false other f later = later f

length_seen : (items : List SyntaxNode) → length (map node_of items) ≡ length items
length_seen [] = refl
length_seen (x ∷ items) = ap suc (length_seen items)

module _ (tokens : Tokens) (unit : ℕ) (tree : SyntaxTree) (cut : IsTokens tokens.text.now tokens.list.items) (is : IsUnit tokens unit tree) where
  abbrev items : List SyntaxNode
  items = tree.nodes.items

  abbrev nodes : List Node
  nodes = map node_of items

  good : (i : ℕ) (n : SyntaxNode) → slice_get items i ≡ Some n → Good tokens.text.now tokens.list.items (stand_all tokens cut) nodes (node_of n)
  good i n e =
      let read = is.0 in
      subst (λ (l : List Node). Good tokens.text.now tokens.list.items (stand_all tokens cut) l (node_of n)) read.2
      (all_good tokens.text.now tokens.list.items (stand_all tokens cut) p_unit 0 (begin 0 no_names []) read.0 refl read.1 i (node_of n) (subst (λ (l : List Node). slice_get l i ≡ Some (node_of n)) (sym read.2) (there_node items i n e)))

  -- the last node is the unit
  root_is : (k : ℕ) → suc k ≡ length items → production_of (slice_get items k) ≡ p_unit
  unfolding makes_node
  root_is k long =
      let read = is.0 in
      let last = last_is tokens.text.now tokens.list.items (stand_all tokens cut) p_unit 0 (begin 0 no_names []) read.0 refl read.1 in
      let size : length read.0.nodes ≡ length items = ap length read.2 ∙ length_seen items in
      let same : last.0 ≡ k = omega (arith, last.2, size, long) in
      let at : slice_get nodes k ≡ Some last.1 = subst (λ (j : ℕ). slice_get nodes j ≡ Some last.1) same (subst (λ (l : List Node). slice_get l last.0 ≡ Some last.1) read.2 last.3) in
      produced items k last.1 at ∙ last.4

  within : (c : ℕ) → production_of (slice_get items c) ≡ 23 → c < length items
  within c e = by (slice_get items c) refl e
    where
      by : (o : Option SyntaxNode) → slice_get items c ≡ o → production_of o ≡ 23 → c < length items
      by None at f = absurd (let bad : nat_eq (production_of None) 23 ≡ true = subst (λ (q : ℕ). nat_eq q 23 ≡ true) (sym f) refl in cc)
      by (Some n) at f = slice_get_within items c n at

  listed_in : (i c : ℕ) → contains (children_of (slice_get items i)) c ≡ true → production_of (slice_get items c) ≡ 23 → (production_of (slice_get items i) ≡ 22) × (is_list tokens.list.items nodes i ≡ true)
  listed_in i c child e = by (slice_get items i) refl child
    where
      of : (n : SyntaxNode) → slice_get items i ≡ Some n → contains n.children.items c ≡ true → All no_parameter nodes n.children.items ⊎ ((n.production ≡ 22) × Begins tokens.text.now tokens.list.items (stand_all tokens cut) nodes n.children.items)
          → (production_of (slice_get items i) ≡ 22) × (is_list tokens.list.items nodes i ≡ true)
      of n at h (inl none) = absurd (never items n.children.items c none h e)
      of n at h (inr (suffix, begins)) =
          (ap production_of at ∙ suffix, listed_is tokens.list.items nodes i (record { node = node_of n; there = there_node items i n at; is = suffix; first = begins.first; more = begins.more; children = begins.are; sign = begins.sign }))

      by : (o : Option SyntaxNode) → slice_get items i ≡ o → contains (children_of o) c ≡ true → (production_of (slice_get items i) ≡ 22) × (is_list tokens.list.items nodes i ≡ true)
      by None at h = cc
      by (Some n) at h = of n at h (good i n at).parts

  listed : (s : Source) → s.nodes ≡ items → Spanned s → ParametersListed tokens tree s
  listed s same spanned c is_one = by (in_span s 0 spanned.root c spanned.whole (omega arith) (omega (arith, inside, spanned.last)))
    where
      seen : (k q : ℕ) → is_a s q k ≡ true → production_of (slice_get items k) ≡ q
      seen k q h = ap (λ (l : List SyntaxNode). production_of (slice_get l k)) (sym same) ∙ eqb-true (production_of (slice_get s.nodes k)) q h

      inside : c < length s.nodes
      inside = subst (λ (l : List SyntaxNode). c < length l) (sym same) (within c (seen c p_parameter is_one))

      of_root : c ≡ spanned.root → ⊥
      of_root e =
          let unit_is : production_of (slice_get items c) ≡ p_unit = subst (λ (k : ℕ). production_of (slice_get items k) ≡ p_unit) (sym e) (root_is spanned.root (spanned.last ∙ ap length same)) in
          let both : 23 ≡ 0 = sym (seen c p_parameter is_one) ∙ unit_is in
          omega (arith, both)

      of_parent : (i : ℕ) → IsPart s i c → (i : ℕ) × IsPart s i c × (is_a s p_suffix i ≡ true) × (is_list tokens.list.items nodes i ≡ true)
      of_parent i child =
          let own = listed_in i c (subst (λ (l : List SyntaxNode). contains (children_of (slice_get l i)) c ≡ true) same child) (seen c p_parameter is_one) in
          let production : production_of (slice_get s.nodes i) ≡ 22 = ap (λ (l : List SyntaxNode). production_of (slice_get l i)) same ∙ own.0 in
          (i, child, subst (λ (q : ℕ). nat_eq q p_suffix ≡ true) (sym production) refl, own.1)

      by : (c ≡ spanned.root) ⊎ HasParent s c → (i : ℕ) × IsPart s i c × (is_a s p_suffix i ≡ true) × (is_list tokens.list.items nodes i ≡ true)
      by (inl e) = absurd (of_root e)
      by (inr (i, child)) = of_parent i child

pub parameters_listed : UnitsList
unfolding source_of
parameters_listed tokens unit tree tag_number cut is = listed tokens unit tree cut is (numbered tag_number (source_of tokens tree)) refl (units_are_spanned tokens unit tree tag_number is)
