-- The name of a declarator as the resolution of names sees it.
use Rattle.std.proofs.Common.{arith, ◌≡◌, ◌<◌, ◌==◌, ◌||◌, ◌&&◌, ℕ, zero, suc, not, nat_eq, Bool, true, false, cond, List, [], ◌∷◌, Option, Some, None, slice_get, refl, sym, ap, ◌∙◌, subst, ◌⊎◌, inl, inr}
use Rattle.std.specs.Prelude.{nat_lt, option_map, if◌then◌else◌}
use Rattle.std.specs.List.{find}
use Rattle.std.proofs.lemmas.Bool.{eqb-true, eqb-false, ltb-false}
use Rattle.std.proofs.lemmas.Option.{slice_get-map}
use Rattle.c_lexer.specs.declared.Token.{Token}
use Rattle.c_lexer.specs.declared.TokenKind.{TokenKind}
use Rattle.c_lexer.specs.declared.TokenKind.TheVariants.{Identifier, Keyword, Punctuator, Integer, Floating, Character, Text, End}
use Rattle.c_grammar.specs.declared.trees.SyntaxNode.{SyntaxNode}
use Rattle.c_grammar.specs.Reads.{Node, node_of, leaf}
use Rattle.c_grammar.specs.Terminals.{contains}
use Rattle.c_grammar.specs.Productions.{p_declarator, p_either}
use Rattle.c_mentions.specs.Syntax as syntax
use Rattle.c_mentions.specs.Declarators.{declarator, within, level, inner_of, name_of, is_inner}
use Rattle.c_senses.specs.Tree.{Source, production_of, production_at, children_at, is_a, is_name, is_identifier, kind_of_token, token_of}
use Rattle.core_node_laws.proofs.count_laws.passed.parsed_tree_laws.placed_laws.Climbing.{Grown, AtMostOne, AllOther, is_other, is_other_in, IsDeclaring}
use Rattle.core_node_laws.specs.count_laws.passed.parsed_tree_laws.grown_parts.Parts.{IsBrought}
use Rattle.declaration_laws.specs.declared_type_laws.declared_leaves.Leaves.{IsNamed, Own, Inner}
use Rattle.declaration_laws.proofs.declared_type_laws.owner_laws.passed.definition_laws.linkage_laws.Seen.{nodes, production_is, production_same, children_are, name_is}
use Rattle.declaration_laws.proofs.declared_type_laws.owned_locals.Forms.{in_declarator}

no_both : (b : Bool) → b ≡ true → b ≡ false → ⊥
no_both b e f = let both : true ≡ false = sym e ∙ f in cc

two : (a b : Bool) → (a && b) ≡ true → (a ≡ true) × (b ≡ true)
two true true e = (refl, refl)
two true false e = cc
two false b e = cc

some_same : {x y : ℕ} → ◌≡◌ {A = Option ℕ} (Some x) (Some y) → x ≡ y
some_same e = cc

-- ---- what is found

record Finds (test : ℕ → Bool) (ks : List ℕ) (y : ℕ) : Type 0 where
  inside : contains ks y ≡ true
  passes : test y ≡ true

find_is : (test : ℕ → Bool) (ks : List ℕ) (y : ℕ) → find test ks ≡ Some y → Finds test ks y
find_is test [] y e = cc
find_is test (k ∷ ks) y e = by (test k) refl e (λ f. find_is test ks y f)
  where
    self : (b : Bool) (x : ℕ) → nat_eq x x ≡ b → b ≡ true
    self true x e = refl
    self false x e = absurd (eqb-false x x e refl)

    by : (b : Bool) → test k ≡ b → cond b (Some k) (find test ks) ≡ Some y → (find test ks ≡ Some y → Finds test ks y) → Finds test (k ∷ ks) y
    by true is f later =
        let same : k ≡ y = some_same f in
        record { inside = subst (λ (x : ℕ). (nat_eq k x || contains ks x) ≡ true) same (ap (λ (b : Bool). b || contains ks k) (self (nat_eq k k) k refl)); passes = subst (λ (x : ℕ). test x ≡ true) same is }
    by false is f later = let more = later f in record { inside = or_more (nat_eq k y) more.inside; passes = more.passes }
      where
        or_more : (a : Bool) → contains ks y ≡ true → (a || contains ks y) ≡ true
        or_more true h = refl
        or_more false h = h

none_passes : (test : ℕ → Bool) (ks : List ℕ) (c : ℕ) → find test ks ≡ None → contains ks c ≡ true → test c ≡ true → ⊥
none_passes test [] c e h is = cc
none_passes test (k ∷ ks) c e h is = by (test k) refl e (nat_eq k c) refl h (λ f g. none_passes test ks c f g is)
  where
    by : (b : Bool) → test k ≡ b → cond b (Some k) (find test ks) ≡ None → (a : Bool) → nat_eq k c ≡ a → (a || contains ks c) ≡ true → (find test ks ≡ None → contains ks c ≡ true → ⊥) → ⊥
    by true passes f a eq g later = cc
    by false fails f true eq g later = no_both (test c) is (subst (λ (x : ℕ). test x ≡ false) (eqb-true k c eq) fails)
    by false fails f false eq g later = later f g

module _ (s : Source) where
  all_other : (ks : List ℕ) (c : ℕ) → AllOther s ks → contains ks c ≡ true → is_other s c ≡ true
  all_other [] c h e = cc
  all_other (k ∷ ks) c h e = by (nat_eq k c) refl e (λ f. all_other ks c h.1 f)
    where
      by : (b : Bool) → nat_eq k c ≡ b → (b || contains ks c) ≡ true → (contains ks c ≡ true → is_other s c ≡ true) → is_other s c ≡ true
      by true eq f later = subst (λ (x : ℕ). is_other s x ≡ true) (eqb-true k c eq) h.0
      by false eq f later = later f

  -- but one part at most
  sole : (ks : List ℕ) (a b : ℕ) → AtMostOne s ks → contains ks a ≡ true → contains ks b ≡ true → is_other s a ≡ false → is_other s b ≡ false → a ≡ b
  sole [] a b h x y p q = cc
  sole (k ∷ ks) a b h x y p q = by h (nat_eq k a) refl (nat_eq k b) refl x y (λ m f g. sole ks a b m f g p q)
    where
      by : AllOther s ks ⊎ ((is_other s k ≡ true) × AtMostOne s ks) → (c : Bool) → nat_eq k a ≡ c → (d : Bool) → nat_eq k b ≡ d → (c || contains ks a) ≡ true → (d || contains ks b) ≡ true
          → (AtMostOne s ks → contains ks a ≡ true → contains ks b ≡ true → a ≡ b) → a ≡ b
      by (inl rest) true e true f g i later = sym (eqb-true k a e) ∙ eqb-true k b f
      by (inl rest) true e false f g i later = absurd (no_both (is_other s b) (all_other ks b rest i) q)
      by (inl rest) false e d f g i later = absurd (no_both (is_other s a) (all_other ks a rest g) p)
      by (inr more) true e d f g i later = absurd (no_both (is_other s a) (subst (λ (z : ℕ). is_other s z ≡ true) (eqb-true k a e) more.0) p)
      by (inr more) false e true f g i later = absurd (no_both (is_other s b) (subst (λ (z : ℕ). is_other s z ≡ true) (eqb-true k b f) more.0) q)
      by (inr more) false e false f g i later = later more.1 g i

  named_sole : (r : ℕ) → is_name s r ≡ true → is_other s r ≡ false
  named_sole r h = by (slice_get s.nodes r) h
    where
      bits : (p : ℕ) (z : Bool) → ((p == leaf) && z) ≡ true → (contains (9 ∷ 22 ∷ []) p || (contains (leaf ∷ []) p && not z)) ≡ false
      bits p z h =
          let b = two (p == leaf) z h in
          subst (λ (q : ℕ). (contains (9 ∷ 22 ∷ []) q || (contains (leaf ∷ []) q && not z)) ≡ false) (sym (eqb-true p leaf b.0)) (subst (λ (y : Bool). (contains (9 ∷ 22 ∷ []) leaf || (contains (leaf ∷ []) leaf && not y)) ≡ false) (sym b.1) refl)

      by : (o : Option SyntaxNode) → ((production_of o == leaf) && is_identifier (kind_of_token (token_of s o))) ≡ true → is_other_in s o ≡ false
      by o h = bits (production_of o) (is_identifier (kind_of_token (token_of s o))) h

  form_sole : (p c : ℕ) → contains (9 ∷ 22 ∷ []) p ≡ false → contains (leaf ∷ []) p ≡ false → is_a s p c ≡ true → is_other s c ≡ false
  form_sole p c x y h = by (slice_get s.nodes c) h
    where
      bits : (q : ℕ) (z : Bool) → (q == p) ≡ true → (contains (9 ∷ 22 ∷ []) q || (contains (leaf ∷ []) q && not z)) ≡ false
      bits q z e = subst (λ (k : ℕ). (contains (9 ∷ 22 ∷ []) k || (contains (leaf ∷ []) k && not z)) ≡ false) (sym (eqb-true q p e)) (off (contains (9 ∷ 22 ∷ []) p) (contains (leaf ∷ []) p) z x y)
        where
          off : (a b c : Bool) → a ≡ false → b ≡ false → (a || (b && not c)) ≡ false
          off true b c e f = cc
          off false true c e f = cc
          off false false c e f = refl

      by : (o : Option SyntaxNode) → (production_of o == p) ≡ true → is_other_in s o ≡ false
      by o e = bits (production_of o) (is_identifier (kind_of_token (token_of s o))) e

  -- a leaf of a name as the resolution sees it
  identifier_same : (k : TokenKind) → is_identifier k ≡ syntax.is_identifier k
  identifier_same Identifier = refl
  identifier_same (Keyword k) = refl
  identifier_same (Punctuator p) = refl
  identifier_same Integer = refl
  identifier_same Floating = refl
  identifier_same Character = refl
  identifier_same Text = refl
  identifier_same End = refl

  kind_same : (o : Option Token) → kind_of_token o ≡ syntax.kind_of o
  kind_same None = refl
  kind_same (Some t) = refl

  pub named_there : (r : ℕ) → is_name s r ≡ true → syntax.is_name s.tokens (nodes s) r ≡ true
  named_there r h = subst (λ (o : Option Node). named o ≡ true) (sym (slice_get-map node_of s.nodes r)) (by (slice_get s.nodes r) h)
    where
      named : Option Node → Bool
      named o = syntax.is_identifier (if syntax.production_of o == leaf then syntax.token_kind s.tokens (syntax.token_of o) else End)

      pick : (b : Bool) (k : TokenKind) → (b && syntax.is_identifier k) ≡ true → syntax.is_identifier (if b then k else End) ≡ true
      pick true k e = e
      pick false k e = cc

      by : (o : Option SyntaxNode) → ((production_of o == leaf) && is_identifier (kind_of_token (token_of s o))) ≡ true → named (option_map node_of o) ≡ true
      by None e = absurd (cc)
      by (Some n) e =
          pick (n.production == leaf) (syntax.token_kind s.tokens n.token)
          (subst (λ (b : Bool). ((n.production == leaf) && b) ≡ true) (identifier_same (kind_of_token (slice_get s.tokens n.token)) ∙ ap syntax.is_identifier (kind_same (slice_get s.tokens n.token))) e)

  -- ---- the name of a declarator

  module _ (grown : Grown s) (brought : IsBrought s) where
    declaring : (m : ℕ) → is_a s p_declarator m ≡ true → IsDeclaring s m
    declaring m h = subst (λ (q : ℕ). contains (19 ∷ 20 ∷ 21 ∷ []) q ≡ true) (sym (eqb-true (production_at s m) p_declarator h)) refl

    inner_sole : (m c : ℕ) → is_inner (nodes s) m c ≡ true → is_other s c ≡ false
    inner_sole m c h = by (syntax.is_of (nodes s) p_declarator c) (syntax.is_of (nodes s) p_either c) refl refl (two (syntax.is_of (nodes s) p_declarator c || syntax.is_of (nodes s) p_either c) (nat_lt c m) h).0
      where
        by : (a b : Bool) → syntax.is_of (nodes s) p_declarator c ≡ a → syntax.is_of (nodes s) p_either c ≡ b → (a || b) ≡ true → is_other s c ≡ false
        by true b e f g = form_sole p_declarator c refl refl (production_is s p_declarator c refl e)
        by false true e f g = form_sole p_either c refl refl (production_is s p_either c refl f)
        by false false e f g = cc

    inner_no_name : (m c : ℕ) → is_inner (nodes s) m c ≡ true → is_name s c ≡ true → ⊥
    inner_no_name m c h name = by (syntax.is_of (nodes s) p_declarator c) (syntax.is_of (nodes s) p_either c) refl refl (two (syntax.is_of (nodes s) p_declarator c || syntax.is_of (nodes s) p_either c) (nat_lt c m) h).0
      where
        is_leaf : (production_at s c == leaf) ≡ true
        is_leaf = (two (production_at s c == leaf) _ name).0

        off : (p : ℕ) → nat_eq leaf p ≡ false → is_a s p c ≡ true → ⊥
        off p differ is = no_both (nat_eq (production_at s c) p) is (subst (λ (q : ℕ). nat_eq q p ≡ false) (sym (eqb-true (production_at s c) leaf is_leaf)) differ)

        by : (a b : Bool) → syntax.is_of (nodes s) p_declarator c ≡ a → syntax.is_of (nodes s) p_either c ≡ b → (a || b) ≡ true → ⊥
        by true b e f g = off p_declarator refl (production_is s p_declarator c refl e)
        by false true e f g = off p_either refl (production_is s p_either c refl f)
        by false false e f g = cc

    in_children : (m c : ℕ) → contains (syntax.children_at (nodes s) m) c ≡ true → contains (children_at s m) c ≡ true
    in_children m c h = subst (λ (l : List ℕ). contains l c ≡ true) (children_are s m) h

    to_children : (m c : ℕ) → contains (children_at s m) c ≡ true → contains (syntax.children_at (nodes s) m) c ≡ true
    to_children m c h = subst (λ (l : List ℕ). contains l c ≡ true) (sym (children_are s m)) h

    no_inner : (m leaf : ℕ) → is_a s p_declarator m ≡ true → contains (children_at s m) leaf ≡ true → is_name s leaf ≡ true → inner_of (nodes s) m ≡ None
    unfolding inner_of
    no_inner m r is child name = by (find (λ c. is_inner (nodes s) m c) (syntax.children_at (nodes s) m)) refl
      where
        by : (o : Option ℕ) → find (λ c. is_inner (nodes s) m c) (syntax.children_at (nodes s) m) ≡ o → o ≡ None
        by None e = refl
        by (Some c) e =
            let f = find_is (λ c. is_inner (nodes s) m c) (syntax.children_at (nodes s) m) c e in
            let same : c ≡ r = sole (children_at s m) c r (grown.one m (declaring m is)) (in_children m c f.inside) child (inner_sole m c f.passes) (named_sole r name) in
            absurd (inner_no_name m c f.passes (subst (λ (k : ℕ). is_name s k ≡ true) (sym same) name))

    own_name : (m leaf : ℕ) → is_a s p_declarator m ≡ true → contains (children_at s m) leaf ≡ true → is_name s leaf ≡ true → name_of s.tokens (nodes s) m ≡ Some leaf
    unfolding name_of
    own_name m r is child name = by (find (λ c. syntax.is_name s.tokens (nodes s) c) (syntax.children_at (nodes s) m)) refl
      where
        by : (o : Option ℕ) → find (λ c. syntax.is_name s.tokens (nodes s) c) (syntax.children_at (nodes s) m) ≡ o → o ≡ Some r
        by None e = absurd (none_passes (λ c. syntax.is_name s.tokens (nodes s) c) (syntax.children_at (nodes s) m) r e (to_children m r child) (named_there r name))
        by (Some c) e =
            let f = find_is (λ c. syntax.is_name s.tokens (nodes s) c) (syntax.children_at (nodes s) m) c e in
            ap (λ (k : ℕ). Some k) (sole (children_at s m) c r (grown.one m (declaring m is)) (in_children m c f.inside) child (named_sole c (name_is s c f.passes)) (named_sole r name))

    inner_one : (m c : ℕ) → is_a s p_declarator m ≡ true → contains (children_at s m) c ≡ true → is_a s p_declarator c ≡ true → inner_of (nodes s) m ≡ Some c
    unfolding inner_of
    inner_one m c is child form = by (find (λ x. is_inner (nodes s) m x) (syntax.children_at (nodes s) m)) refl
      where
        small : nat_lt c m ≡ true
        small = pick (nat_lt c m) refl
          where
            pick : (b : Bool) → nat_lt c m ≡ b → b ≡ true
            pick true e = refl
            pick false e = absurd (let le = ltb-false c m e in let lt = grown.before m c child in omega (arith, le, lt))

        passes : is_inner (nodes s) m c ≡ true
        passes =
            ap (λ (b : Bool). (b || syntax.is_of (nodes s) p_either c) && nat_lt c m) (ap (λ (q : ℕ). q == p_declarator) (production_same s p_declarator c refl form)) ∙ small

        by : (o : Option ℕ) → find (λ x. is_inner (nodes s) m x) (syntax.children_at (nodes s) m) ≡ o → o ≡ Some c
        by None e = absurd (none_passes (λ x. is_inner (nodes s) m x) (syntax.children_at (nodes s) m) c e (to_children m c child) passes)
        by (Some x) e =
            let f = find_is (λ x. is_inner (nodes s) m x) (syntax.children_at (nodes s) m) x e in
            ap (λ (k : ℕ). Some k) (sole (children_at s m) x c (grown.one m (declaring m is)) (in_children m x f.inside) child (inner_sole m x f.passes) (form_sole p_declarator c refl refl form))

    said : (m leaf levels : ℕ) → IsNamed s m leaf → is_a s p_declarator m ≡ true → m < levels → (within s.tokens (nodes s) levels m).name ≡ Some leaf
    said m r zero named is lt = absurd (omega (arith, lt))
    said m r (suc levels) (Own child name) is lt =
        ap (λ (o : Option ℕ). (level s.tokens (nodes s) (within s.tokens (nodes s) levels) m o).name) (no_inner m r is child name) ∙ own_name m r is child name
    said m r (suc levels) (Inner c child form more) is lt =
        let own : is_a s p_declarator c ≡ true = in_declarator s brought m c is child form in
        let less : c < m = grown.before m c child in
        ap (λ (o : Option ℕ). (level s.tokens (nodes s) (within s.tokens (nodes s) levels) m o).name) (inner_one m c is child own) ∙ said c r levels more own (omega (arith, less, lt))

    pub said_name : (m leaf : ℕ) → IsNamed s m leaf → is_a s p_declarator m ≡ true → (declarator s.tokens (nodes s) m).name ≡ Some leaf
    unfolding declarator
    said_name m r named is = said m r (suc m) named is (omega arith)
