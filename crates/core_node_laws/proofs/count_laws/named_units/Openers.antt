-- The parenthesis of a compound literal is a leaf that has its token.
use Rattle.std.proofs.Common.{◌≡◌, ℕ, zero, suc, nat_eq, ◌&&◌, ◌||◌, ◌==◌, Bool, true, false, List, [], ◌∷◌, map, Option, Some, None, slice_get, refl, sym, ap, ◌∙◌, subst, ◌⊎◌, inl, inr}
use Rattle.std.specs.Prelude.{is_some, if◌then◌else◌}
use Rattle.std.proofs.lemmas.Bool.{eqb-true, and_parts, or_cases}
use Rattle.c_lexer.specs.declared.Token.{Token}
use Rattle.c_lexer.specs.declared.TokenKind.{TokenKind}
use Rattle.c_lexer.specs.declared.TokenKind.TheVariants.{Punctuator}
use Rattle.c_lexer.specs.Laws.{Stands}
use Rattle.c_grammar.specs.declared.trees.SyntaxNode.{SyntaxNode}
use Rattle.c_grammar.specs.Productions.{p_cast, p_unary, p_type_name}
use Rattle.c_grammar.specs.Words.{sign_left_parenthesis}
use Rattle.c_grammar.specs.Terminals.{contains}
use Rattle.c_grammar.specs.Reads.{Node, node_of, leaf}
use Rattle.c_senses.specs.Tree.{Source, production_of, children_of, token_of, kind_of_token, sign_of_kind, is_number, is_a, has_sign, children_at, child_of, first_where}
use Rattle.core_node_laws.proofs.count_laws.named_units.Standing.{IsOpening, opening_of}
use Rattle.core_node_laws.proofs.count_laws.named_units.Parts.{HasToken}
use Rattle.core_node_laws.proofs.count_laws.named_units.Openings.{IsPlain, HasParen, IsOpened, AllOpened}

none_some : {X : Type 0} → {x : X} → ◌≡◌ {A = Option X} None (Some x) → ⊥
none_some h = cc

some_one : {X : Type 0} → {x y : X} → ◌≡◌ {A = Option X} (Some x) (Some y) → x ≡ y
some_one h = cc

some_where : (test : ℕ → Bool) (ks : List ℕ) (r k : ℕ) → slice_get ks r ≡ Some k → test k ≡ true → (c : ℕ) × (first_where test ks ≡ Some c) × (test c ≡ true)
some_where test [] r k e h = absurd (none_some e)
some_where test (x ∷ ks) zero k e h = by (test x) (ap test (some_one e) ∙ h) refl
  where
    by : (b : Bool) → b ≡ true → test x ≡ b → (c : ℕ) × ((if b then Some x else first_where test ks) ≡ Some c) × (test c ≡ true)
    by true is own = (x, refl, own)
    by false is own = absurd (let never : false ≡ true = is in cc)
some_where test (x ∷ ks) (suc r) k e h = by (test x) refl (some_where test ks r k e h)
  where
    by : (b : Bool) → test x ≡ b → (c : ℕ) × (first_where test ks ≡ Some c) × (test c ≡ true) → (c : ℕ) × ((if b then Some x else first_where test ks) ≡ Some c) × (test c ≡ true)
    by true own rest = (x, refl, own)
    by false own rest = rest

found_where : (test : ℕ → Bool) (ks : List ℕ) → is_some (first_where test ks) ≡ true → (r : ℕ) × (k : ℕ) × (slice_get ks r ≡ Some k) × (test k ≡ true)
found_where test [] h = absurd (let never : false ≡ true = h in cc)
found_where test (x ∷ ks) h = by (test x) refl h (λ g. found_where test ks g)
  where
    by : (b : Bool) → test x ≡ b → is_some (if b then Some x else first_where test ks) ≡ true → (is_some (first_where test ks) ≡ true → (r : ℕ) × (k : ℕ) × (slice_get ks r ≡ Some k) × (test k ≡ true))
        → (r : ℕ) × (k : ℕ) × (slice_get (x ∷ ks) r ≡ Some k) × (test k ≡ true)
    by true own h rest = (0, x, refl, own)
    by false own h rest = let found = rest h in (suc found.0, found.1, found.2, found.3)

node_at : (items : List SyntaxNode) (k : ℕ) (n : Node) → slice_get (map node_of items) k ≡ Some n → (m : SyntaxNode) × (slice_get items k ≡ Some m) × (node_of m ≡ n)
node_at [] k n e = absurd (none_some e)
node_at (x ∷ items) zero n e = (x, refl, some_one e)
node_at (x ∷ items) (suc k) n e = node_at items k n e

there_node : (items : List SyntaxNode) (i : ℕ) (n : SyntaxNode) → slice_get items i ≡ Some n → slice_get (map node_of items) i ≡ Some (node_of n)
there_node [] i n e = absurd (none_some e)
there_node (m ∷ items) zero n e = ap (λ (x : SyntaxNode). Some (node_of x)) (some_one e)
there_node (m ∷ items) (suc i) n e = there_node items i n e

-- the leaf of a sign has its token
module _ (s : Source) where
  signed : (sign i : ℕ) (o : Option SyntaxNode) → slice_get s.nodes i ≡ o → ((production_of o == leaf) && is_number (sign_of_kind (kind_of_token (token_of s o))) sign) ≡ true → HasToken s i
  signed sign i None e h = absurd (let never : false ≡ true = (and_parts (production_of None == leaf) (is_number (sign_of_kind (kind_of_token (token_of s None))) sign) h).1 in cc)
  signed sign i (Some n) e h =
      let parts = and_parts (n.production == leaf) (is_number (sign_of_kind (kind_of_token (slice_get s.tokens n.token))) sign) h in
      by (slice_get s.tokens n.token) refl parts.1 (eqb-true n.production leaf parts.0)
    where
      by : (o : Option Token) → slice_get s.tokens n.token ≡ o → is_number (sign_of_kind (kind_of_token o)) sign ≡ true → n.production ≡ leaf → HasToken s i
      by None at is p = absurd (let never : false ≡ true = is in cc)
      by (Some t) at is p = record { node = n; there = e; leafy = p; token = t; taken = at }

  -- a cast or a unary expression is a node
  typed_node : (p : ℕ) (o : Option SyntaxNode) → slice_get s.nodes p ≡ o → ((production_of o == p_cast) || (production_of o == p_unary)) ≡ true → (n : SyntaxNode) × (slice_get s.nodes p ≡ Some n) × (contains (44 ∷ 45 ∷ []) n.production ≡ true)
  typed_node p None e h = absurd (let never : false ≡ true = h in cc)
  typed_node p (Some n) e h = (n, e, listed (or_cases (n.production == p_cast) (n.production == p_unary) h))
    where
      listed : ((n.production == p_cast) ≡ true) ⊎ ((n.production == p_unary) ≡ true) → contains (44 ∷ 45 ∷ []) n.production ≡ true
      listed (inl f) = subst (λ (x : ℕ). contains (44 ∷ 45 ∷ []) x ≡ true) (sym (eqb-true n.production p_cast f)) refl
      listed (inr f) = subst (λ (x : ℕ). contains (44 ∷ 45 ∷ []) x ≡ true) (sym (eqb-true n.production p_unary f)) refl

  module _ (all : (k : ℕ) (t : Token) → slice_get s.tokens k ≡ Some t → Stands s.text t) (all_open : AllOpened s.text s.tokens all (map node_of s.nodes)) where
    no_type : (p : ℕ) (ks : List ℕ) → IsPlain s.text s.tokens all (map node_of s.nodes) ks → is_some (first_where (is_a s p_type_name) ks) ≡ true → ⊥
    no_type p ks plain h =
        let (r, k, at, is) = found_where (is_a s p_type_name) ks h in
        let (n, there, other) = plain r k at in
        let (m, own, same) = node_at s.nodes k n there in
        let production : production_of (slice_get s.nodes k) ≡ n.production = ap production_of own ∙ ap (λ (x : Node). x.production) same in
        let never : true ≡ false = sym is ∙ (ap (λ (x : ℕ). nat_eq x 24) production ∙ other) in
        cc

    paren_sign : (k : ℕ) (n : Node) (t : Token) → slice_get (map node_of s.nodes) k ≡ Some n → n.production ≡ leaf → slice_get s.tokens n.token ≡ Some t → t.kind ≡ Punctuator 2 → has_sign s sign_left_parenthesis k ≡ true
    paren_sign k n t there leafy taken kind =
        let (m, own, same) = node_at s.nodes k n there in
        let production : production_of (slice_get s.nodes k) ≡ leaf = ap production_of own ∙ (ap (λ (x : Node). x.production) same ∙ leafy) in
        let token : token_of s (slice_get s.nodes k) ≡ Some t = ap (token_of s) own ∙ (ap (λ (x : Node). slice_get s.tokens x.token) same ∙ taken) in
        let sign : is_number (sign_of_kind (kind_of_token (token_of s (slice_get s.nodes k)))) sign_left_parenthesis ≡ true =
        ap (λ (o : Option Token). is_number (sign_of_kind (kind_of_token o)) sign_left_parenthesis) token ∙ ap (λ (x : TokenKind). is_number (sign_of_kind x) sign_left_parenthesis) kind in
        both (production_of (slice_get s.nodes k) == leaf) (is_number (sign_of_kind (kind_of_token (token_of s (slice_get s.nodes k)))) sign_left_parenthesis) (ap (λ (x : ℕ). x == leaf) production) sign
      where
        both : (a b : Bool) → a ≡ true → b ≡ true → (a && b) ≡ true
        both a b p q = rw (p, q) refl

    opening_leaf : (p : ℕ) (ks : List ℕ) → children_at s p ≡ ks → HasParen s.text s.tokens all (map node_of s.nodes) ks → HasToken s (opening_of s p)
    opening_leaf p ks are (r, k, at, (n, there, leafy, (t, taken, kind))) =
        let (c, found, sign) = some_where (has_sign s sign_left_parenthesis) ks r k at (paren_sign k n t there leafy taken kind) in
        let here : opening_of s p ≡ c = ap (λ (o : Option ℕ). elim o as (λ _. ℕ) [ None ↦ p | Some leaf ↦ leaf ]) (ap (first_where (has_sign s sign_left_parenthesis)) are ∙ found) in
        subst (λ (x : ℕ). HasToken s x) (sym here) (signed sign_left_parenthesis c (slice_get s.nodes c) refl sign)

    by_children : (p : ℕ) (n : SyntaxNode) → slice_get s.nodes p ≡ Some n → is_some (child_of s p_type_name p) ≡ true → IsOpened s.text s.tokens all (map node_of s.nodes) n.children.items → HasToken s (opening_of s p)
    by_children p n at typed (inl plain) = absurd (no_type p n.children.items plain (subst (λ (o : Option SyntaxNode). is_some (first_where (is_a s p_type_name) (children_of o)) ≡ true) at typed))
    by_children p n at typed (inr paren) = opening_leaf p n.children.items (ap children_of at) paren

    pub opener : (d : ℕ) → IsOpening s d → HasToken s d
    opener d h =
        let (n, at, is) = typed_node h.node (slice_get s.nodes h.node) refl h.kind in
        let opened = all_open h.node (node_of n) (there_node s.nodes h.node n at) is in
        subst (λ (x : ℕ). HasToken s x) (sym h.opens) (by_children h.node n at h.typed opened)
