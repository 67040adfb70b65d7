-- An entity without linkage is known by its own name alone, and no compound literal is known by a name.
use Rattle.std.proofs.Common.{◌≡◌, ℕ, nat_eq, Bool, true, false, ◌&&◌, ◌||◌, ◌==◌, List, [], ◌∷◌, Option, Some, None, refl, sym, ap, ◌∙◌, subst, ◌⊎◌, inl, inr}
use Rattle.std.specs.Prelude.{if◌then◌else◌}
use Rattle.std.proofs.lemmas.Bool.{eqb-true}
use Rattle.c_lexer.specs.declared.TokenKind.{TokenKind}
use Rattle.c_lexer.specs.declared.TokenKind.TheVariants.{Identifier}
use Rattle.c_grammar.specs.Productions.{p_cast, p_unary}
use Rattle.c_grammar.specs.Reads.{leaf}
use Rattle.c_grammar.specs.Words.{sign_left_parenthesis}
use Rattle.c_scope.specs.declared.kinds.Declared.{Declared}
use Rattle.c_senses.specs.Names.{ordinary_at}
use Rattle.c_senses.specs.Tree.{Source, is_a, is_leaf, is_name, is_identifier, kind_at, has_sign, is_number, sign_at, sign_of_kind, production_at, children_at, first_where}
use Rattle.c_senses.specs.Entities.{entity_of, is_linked, is_internal, is_internal_of, internal_among, keep, first_of}
use Rattle.c_senses.specs.Sense.{Sense}
use Rattle.declaration_laws.proofs.function_laws.passed.definition_laws.linkage_laws.Seen.{some_same, none_some, no_both}

pub both : (a b : Bool) → (a && b) ≡ true → (a ≡ true) × (b ≡ true)
both true true e = (refl, refl)
both true false e = cc
both false b e = cc

module _ (s : Source) (d : ℕ) (name : is_name s d ≡ true) where
  -- no parenthesis is a name, nor is a cast
  no_sign : (x : TokenKind) → is_identifier x ≡ true → (k : ℕ) → is_number (sign_of_kind x) k ≡ false
  no_sign Identifier h k = refl
  no_sign x h k = cc

  pub opening_differs : (p : ℕ) → (is_a s p_cast p || is_a s p_unary p) ≡ true →
      (nat_eq (elim (first_where (has_sign s sign_left_parenthesis) (children_at s p)) as (λ _. ℕ) [ None ↦ p | Some l ↦ l ]) d) ≡ false
  opening_differs p h = by (first_where (has_sign s sign_left_parenthesis) (children_at s p)) refl
    where
      leafy : is_leaf s d ≡ true
      leafy = (both (is_leaf s d) (is_identifier (kind_at s d)) name).0

      first_passes : (test : ℕ → Bool) (ks : List ℕ) (x : ℕ) → first_where test ks ≡ Some x → test x ≡ true
      first_passes test [] x e = absurd (none_some e)
      first_passes test (k ∷ ks) x e = pick (test k) refl e (first_passes test ks x)
        where
          pick : (b : Bool) → test k ≡ b → (if b then Some k else first_where test ks) ≡ Some x → (first_where test ks ≡ Some x → test x ≡ true) → test x ≡ true
          pick true t f later = ap test (sym (some_same f)) ∙ t
          pick false t f later = later f

      no_equal : (x : ℕ) → (x ≡ d → ⊥) → nat_eq x d ≡ false
      no_equal x no_same = pick (nat_eq x d) refl
        where
          pick : (b : Bool) → nat_eq x d ≡ b → b ≡ false
          pick true e = absurd (no_same (eqb-true x d e))
          pick false e = refl

      no_cast : (q : ℕ) → nat_eq leaf q ≡ false → is_a s q d ≡ false
      no_cast q off = ap (λ (n : ℕ). nat_eq n q) (eqb-true (production_at s d) leaf leafy) ∙ off

      either_not : (a b : Bool) → a ≡ false → b ≡ false → (a || b) ≡ true → ⊥
      either_not true b e f g = cc
      either_not false true e f g = cc
      either_not false false e f g = cc

      by : (o : Option ℕ) → first_where (has_sign s sign_left_parenthesis) (children_at s p) ≡ o → nat_eq (elim o as (λ _. ℕ) [ None ↦ p | Some l ↦ l ]) d ≡ false
      by None e = no_equal p (λ same. either_not (is_a s p_cast d) (is_a s p_unary d) (no_cast p_cast refl) (no_cast p_unary refl) (subst (λ (x : ℕ). (is_a s p_cast x || is_a s p_unary x) ≡ true) same h))
      by (Some l) e =
          no_equal l (λ same. let sign = subst (λ (x : ℕ). has_sign s sign_left_parenthesis x ≡ true) same (first_passes (has_sign s sign_left_parenthesis) (children_at s p) l e) in
          no_both (is_number (sign_at s d) sign_left_parenthesis) (both (is_leaf s d) (is_number (sign_at s d) sign_left_parenthesis) sign).1 (no_sign (kind_at s d) (both (is_leaf s d) (is_identifier (kind_at s d)) name).1 sign_left_parenthesis))

module _ (s : Source) (sense : ℕ → Sense) (d : ℕ) (linked : is_linked s sense d ≡ false) where
  first_kept : (symbol : ℕ) (ds : List Declared) (l : ℕ) → first_of s sense l (keep s sense (is_internal_of s sense symbol) ds) ≡ d → (l ≡ d) ⊎ (is_internal s sense d ≡ true)
  first_kept symbol [] l e = inl e
  first_kept symbol (y ∷ ds) l e = by (is_internal_of s sense symbol y) refl e (first_kept symbol ds l)
    where
      by : (b : Bool) → is_internal_of s sense symbol y ≡ b → first_of s sense l (if b then y ∷ keep s sense (is_internal_of s sense symbol) ds else keep s sense (is_internal_of s sense symbol) ds) ≡ d
          → (first_of s sense l (keep s sense (is_internal_of s sense symbol) ds) ≡ d → (l ≡ d) ⊎ (is_internal s sense d ≡ true)) → (l ≡ d) ⊎ (is_internal s sense d ≡ true)
      by true h f later = inr (subst (λ (x : ℕ). is_internal s sense x ≡ true) f (both (y.symbol == symbol) (is_internal s sense y.node) h).1)
      by false h f later = later f

  not_internal : (l : ℕ) → l ≡ d → is_internal s sense l ≡ true → ⊥
  not_internal l same h = no_both (is_linked s sense d) (subst (λ (x : ℕ). is_linked s sense x ≡ true) same (both (is_linked s sense l) _ h).0) linked

  pub own_name : (l : ℕ) → entity_of s sense l ≡ d → l ≡ d
  own_name l e = by (is_internal s sense l) refl e
    where
      among : (o : Option Declared) → is_internal s sense l ≡ true → first_of s sense l (internal_among s sense s.declared.ordinary o) ≡ d → (l ≡ d) ⊎ (is_internal s sense d ≡ true)
      among None h f = inl f
      among (Some y) h f = first_kept y.symbol s.declared.ordinary l f

      pick : is_internal s sense l ≡ true → (l ≡ d) ⊎ (is_internal s sense d ≡ true) → l ≡ d
      pick h (inl same) = absurd (not_internal l same h)
      pick h (inr own) = absurd (not_internal d refl own)

      by : (b : Bool) → is_internal s sense l ≡ b → (if b then first_of s sense l (internal_among s sense s.declared.ordinary (ordinary_at s l)) else l) ≡ d → l ≡ d
      by true h f = pick h (among (ordinary_at s l) h f)
      by false h f = f
