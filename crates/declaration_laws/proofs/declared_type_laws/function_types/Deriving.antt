-- What a declarator's sense derives, by what name resolution says of it.
use Rattle.std.proofs.Common.{arith, ◌≡◌, ◌<◌, ◌⊎◌, inl, inr, ℕ, zero, suc, ◌==◌, ◌&&◌, ◌||◌, not, nat_eq, Bool, true, false, cond, List, [], ◌∷◌, ◌++◌, Option, Some, None, length, slice_get, reverse, append-nil, refl, sym, ap, ◌∙◌, subst}
use Rattle.std.specs.Prelude.{⊤, if◌then◌else◌}
use Rattle.std.specs.List.{find, list_any}
use Rattle.std.proofs.lemmas.List.{reverse-append}
use Rattle.std.proofs.lemmas.Bool.{eqb-true, eq-eqb}
use Rattle.c_grammar.specs.declared.trees.SyntaxNode.{SyntaxNode}
use Rattle.c_grammar.specs.Productions.{p_declarator, p_abstract, p_either, p_suffix}
use Rattle.c_grammar.specs.Reads.{leaf}
use Rattle.c_grammar.specs.Terminals.{contains}
use Rattle.c_grammar.specs.Words.{sign_star, sign_left_parenthesis, sign_left_bracket, sign_ellipsis}
use Rattle.c_mentions.specs.declared.declarators.Derivation.{Derivation as Derives}
use Rattle.c_mentions.specs.declared.declarators.Derivation.TheVariants.{Bare, Function, Other}
use Rattle.c_mentions.specs.Syntax as syntax
use Rattle.c_mentions.specs.Declarators.{declarator, within, level, inner_of, name_of, is_inner, derivation_of, by_suffix, has_star, is_list, begins_with, nearest}
use Rattle.c_senses.specs.Tree.{Source, production_of, production_at, children_at, is_a, is_name, is_identifier, is_leaf, kind_at, sign_at, is_number, has_sign, first_where, any_where, kind_of_token, token_of}
use Rattle.c_senses.specs.Given.{Given, Fits, Refuses, ◌>>=◌}
use Rattle.c_senses.specs.World.{World}
use Rattle.c_senses.specs.Declarators.{is_declarator, stars, suffixes, inner_derivations, derivations, name_in, suffix_row, array_suffix, list_of, parameters_in}
use Rattle.c_senses.specs.Rows.{AreSenses}
use Rattle.c_senses.specs.Sense.{Sense, Nothing, IsDeclarator, IsDerivation, Parameter, Derivation, Pointing, Returning, sense_in}
use Rattle.core_node_laws.proofs.count_laws.passed.parsed_tree_laws.placed_laws.Climbing.{Grown, IsDeclaring, is_other, is_other_in, AllOther, AtMostOne}
use Rattle.declaration_laws.proofs.declared_type_laws.owner_laws.passed.definition_laws.linkage_laws.Seen.{nodes, children_are}
use Rattle.core_node_laws.proofs.built_unit_laws.run_laws.Times.{known_at, world_of, known, row_as}
use Rattle.declaration_laws.proofs.declared_type_laws.owner_laws.passed.definition_laws.function_definitions.Sensed.{Ends, ends_more, list_returns}
use Rattle.declaration_laws.proofs.declared_type_laws.owner_laws.passed.definition_laws.function_definitions.Whole.{declarator_gives}
use Rattle.declaration_laws.specs.declared_type_laws.declared_leaves.Leaves.{IsNamed, Own, Inner}
use Rattle.declaration_laws.proofs.declared_type_laws.function_types.Views.{sign_same, name_same, part_same}

some_one : {X : Type 0} → {x y : X} → ◌≡◌ {A = Option X} (Some x) (Some y) → x ≡ y
some_one h = cc

both : (a b : Bool) → (a && b) ≡ true → (a ≡ true) × (b ≡ true)
both true b e = (refl, e)
both false b e = cc

no_both : (b : Bool) → b ≡ true → b ≡ false → ⊥
no_both b e f = let both : true ≡ false = sym e ∙ f in cc

pub found_in : (test : ℕ → Bool) (ks : List ℕ) (x : ℕ) → find test ks ≡ Some x → (contains ks x ≡ true) × (test x ≡ true)
found_in test [] x e = cc
found_in test (k ∷ ks) x e = by (test k) refl e (found_in test ks x)
  where
    own : (y : ℕ) → k ≡ y → (nat_eq k y || contains ks y) ≡ true
    own y same = ap (λ (b : Bool). b || contains ks y) (eq-eqb k y same)

    more : (b : Bool) → contains ks x ≡ true → (b || contains ks x) ≡ true
    more true h = refl
    more false h = h

    by : (b : Bool) → test k ≡ b → cond b (Some k) (find test ks) ≡ Some x → (find test ks ≡ Some x → (contains ks x ≡ true) × (test x ≡ true)) → (contains (k ∷ ks) x ≡ true) × (test x ≡ true)
    by true t f later = let same : k ≡ x = cc in (own x same, ap test (sym same) ∙ t)
    by false t f later = let r = later f in (more (nat_eq k x) r.0, r.1)

first_passes : (test : ℕ → Bool) (ks : List ℕ) (x : ℕ) → first_where test ks ≡ Some x → (contains ks x ≡ true) × (test x ≡ true)
first_passes test [] x e = cc
first_passes test (k ∷ ks) x e = by (test k) refl e (first_passes test ks x)
  where
    own : (y : ℕ) → k ≡ y → (nat_eq k y || contains ks y) ≡ true
    own y same = ap (λ (b : Bool). b || contains ks y) (eq-eqb k y same)

    more : (b : Bool) → contains ks x ≡ true → (b || contains ks x) ≡ true
    more true h = refl
    more false h = h

    by : (b : Bool) → test k ≡ b → (if b then Some k else first_where test ks) ≡ Some x → (first_where test ks ≡ Some x → (contains ks x ≡ true) × (test x ≡ true)) → (contains (k ∷ ks) x ≡ true) × (test x ≡ true)
    by true t f later = let same : k ≡ x = cc in (own x same, ap test (sym same) ∙ t)
    by false t f later = let r = later f in (more (nat_eq k x) r.0, r.1)

find_same : (test other : ℕ → Bool) (ks : List ℕ) → ((k : ℕ) → test k ≡ other k) → find test ks ≡ first_where other ks
find_same test other [] h = refl
find_same test other (k ∷ ks) h = ap (λ (b : Bool). cond b (Some k) (find test ks)) (h k) ∙ ap (λ (o : Option ℕ). cond (other k) (Some k) o) (find_same test other ks h)

none_any : (test other : ℕ → Bool) (ks : List ℕ) → ((k : ℕ) → test k ≡ other k) → list_any test ks ≡ false → (k : ℕ) → contains ks k ≡ true → other k ≡ false
none_any test other [] h e k c = cc
none_any test other (j ∷ ks) h e k c = by (test j) (nat_eq j k) refl refl e c (λ f d. none_any test other ks h f k d)
  where
    by : (b x : Bool) → test j ≡ b → nat_eq j k ≡ x → (b || list_any test ks) ≡ false → (x || contains ks k) ≡ true → (list_any test ks ≡ false → contains ks k ≡ true → other k ≡ false) → other k ≡ false
    by true x t n f d later = cc
    by false true t n f d later = subst (λ (i : ℕ). other i ≡ false) (eqb-true j k n) (sym (h j) ∙ t)
    by false false t n f d later = later f d

-- of some parts of which one at most is no other, all but that one are others
only_one : (s : Source) (ks : List ℕ) (x k : ℕ) → AtMostOne s ks → contains ks x ≡ true → is_other s x ≡ false → contains ks k ≡ true → (k ≡ x) ⊎ (is_other s k ≡ true)
only_one s [] x k h cx nx ck = cc
only_one s (j ∷ ks) x k h cx nx ck = by (nat_eq j x) (nat_eq j k) refl refl h cx ck (λ m c d. only_one s ks x k m c nx d)
  where
    all_are : (ks : List ℕ) (i : ℕ) → AllOther s ks → contains ks i ≡ true → is_other s i ≡ true
    all_are [] i a c = cc
    all_are (l ∷ ks) i a c = pick (nat_eq l i) refl c (all_are ks i a.1)
      where
        pick : (b : Bool) → nat_eq l i ≡ b → (b || contains ks i) ≡ true → (contains ks i ≡ true → is_other s i ≡ true) → is_other s i ≡ true
        pick true e d later = subst (λ (y : ℕ). is_other s y ≡ true) (eqb-true l i e) a.0
        pick false e d later = later d

    by : (a b : Bool) → nat_eq j x ≡ a → nat_eq j k ≡ b → AllOther s ks ⊎ ((is_other s j ≡ true) × AtMostOne s ks) → (a || contains ks x) ≡ true → (b || contains ks k) ≡ true → (AtMostOne s ks → contains ks x ≡ true → contains ks k ≡ true → (k ≡ x) ⊎ (is_other s k ≡ true))
        → (k ≡ x) ⊎ (is_other s k ≡ true)
    by true true ea eb m c d later = inl (sym (eqb-true j k eb) ∙ eqb-true j x ea)
    by true false ea eb (inl all) c d later = inr (all_are ks k all d)
    by true false ea eb (inr more) c d later = absurd (no_both (is_other s j) more.0 (ap (is_other s) (eqb-true j x ea) ∙ nx))
    by false b ea eb (inl all) c d later = absurd (no_both (is_other s x) (all_are ks x all c) nx)
    by false true ea eb (inr more) c d later = inr (subst (λ (y : ℕ). is_other s y ≡ true) (eqb-true j k eb) more.0)
    by false false ea eb (inr more) c d later = later more.1 c d

-- a name and a declarator are no others
name_no_other : (s : Source) (x : ℕ) → is_name s x ≡ true → is_other s x ≡ false
name_no_other s x h = by (slice_get s.nodes x) h
  where
    of : (p : ℕ) (z : Bool) → p ≡ leaf → z ≡ true → (contains (9 ∷ 22 ∷ []) p || (contains (leaf ∷ []) p && not z)) ≡ false
    of p true e f = subst (λ (q : ℕ). (contains (9 ∷ 22 ∷ []) q || (contains (leaf ∷ []) q && not true)) ≡ false) (sym e) refl
    of p false e f = cc

    by : (o : Option SyntaxNode) → ((production_of o == leaf) && is_identifier (kind_of_token (token_of s o))) ≡ true → is_other_in s o ≡ false
    by o k = let parts = both (production_of o == leaf) (is_identifier (kind_of_token (token_of s o))) k in of (production_of o) (is_identifier (kind_of_token (token_of s o))) (eqb-true (production_of o) leaf parts.0) parts.1

of_no_other : (s : Source) (p x : ℕ) → is_a s p x ≡ true → (contains (9 ∷ 22 ∷ []) p || contains (leaf ∷ []) p) ≡ false → is_other s x ≡ false
of_no_other s p x h e = by (slice_get s.nodes x) h
  where
    of : (z : Bool) → (contains (9 ∷ 22 ∷ []) p || (contains (leaf ∷ []) p && z)) ≡ false
    of z = pick (contains (9 ∷ 22 ∷ []) p) (contains (leaf ∷ []) p) e
      where
        pick : (a b : Bool) → (a || b) ≡ false → (a || (b && z)) ≡ false
        pick true b f = cc
        pick false true f = cc
        pick false false f = refl

    by : (o : Option SyntaxNode) → nat_eq (production_of o) p ≡ true → is_other_in s o ≡ false
    by o k = subst (λ (q : ℕ). (contains (9 ∷ 22 ∷ []) q || (contains (leaf ∷ []) q && not (is_identifier (kind_of_token (token_of s o))))) ≡ false) (sym (eqb-true (production_of o) p k)) (of (not (is_identifier (kind_of_token (token_of s o)))))

-- ---- lists of parts

module _ (w : World) (s : Source) (sense : ℕ → Sense) where
  -- a part of no sense, a suffix, or a declarator
  pub data Part (k : ℕ) : Type 0 where
    Quiet : is_a s p_suffix k ≡ false → sense k ≡ Nothing → Part k
    Suffix : (d : Derivation) → is_a s p_suffix k ≡ true → sense k ≡ IsDerivation d → Part k
    Deeper : (name : Option ℕ) (ds : List Derivation) → is_a s p_suffix k ≡ false → sense k ≡ IsDeclarator name ds → Part k

  abbrev pub AllParts : List ℕ → Type 0
  AllParts [] = ⊤
  AllParts (k ∷ ks) = Part k × AllParts ks

  abbrev with_suffix : Sense → List Derivation → List Derivation
  with_suffix x rest = elim x as (λ _. List Derivation) [ IsDerivation d ↦ d ∷ rest | _ ↦ rest ]

  abbrev with_inner : Sense → List Derivation → List Derivation
  with_inner x rest = elim x as (λ _. List Derivation) [ IsDeclarator name ds ↦ ds | _ ↦ rest ]

  no_suffixes : (ks : List ℕ) → AllParts ks → first_where (is_a s p_suffix) ks ≡ None → suffixes w s sense ks ≡ []
  no_suffixes [] h e = refl
  no_suffixes (k ∷ ks) h e = by h.0 (no_suffixes ks h.1)
    where
      off : is_a s p_suffix k ≡ false → first_where (is_a s p_suffix) ks ≡ None
      off f = sym (ap (λ (b : Bool). if b then Some k else first_where (is_a s p_suffix) ks) f) ∙ e

      by : Part k → (first_where (is_a s p_suffix) ks ≡ None → suffixes w s sense ks ≡ []) → with_suffix (sense k) (suffixes w s sense ks) ≡ []
      by (Quiet f is) later = ap (λ (x : Sense). with_suffix x (suffixes w s sense ks)) is ∙ later (off f)
      by (Deeper name ds f is) later = ap (λ (x : Sense). with_suffix x (suffixes w s sense ks)) is ∙ later (off f)
      by (Suffix d t is) later = let no : Some k ≡ None = sym (ap (λ (b : Bool). if b then Some k else first_where (is_a s p_suffix) ks) t) ∙ e in cc

  first_suffix : (ks : List ℕ) (x : ℕ) (d : Derivation) → AllParts ks → first_where (is_a s p_suffix) ks ≡ Some x → sense x ≡ IsDerivation d → (rest : List Derivation) × (suffixes w s sense ks ≡ d ∷ rest)
  first_suffix [] x d h e is = cc
  first_suffix (k ∷ ks) x d h e is = by h.0 (λ f. first_suffix ks x d h.1 f is)
    where
      off : is_a s p_suffix k ≡ false → first_where (is_a s p_suffix) ks ≡ Some x
      off f = sym (ap (λ (b : Bool). if b then Some k else first_where (is_a s p_suffix) ks) f) ∙ e

      by : Part k → (first_where (is_a s p_suffix) ks ≡ Some x → (rest : List Derivation) × (suffixes w s sense ks ≡ d ∷ rest)) → (rest : List Derivation) × (with_suffix (sense k) (suffixes w s sense ks) ≡ d ∷ rest)
      by (Quiet f own) later = let r = later (off f) in (r.0, ap (λ (y : Sense). with_suffix y (suffixes w s sense ks)) own ∙ r.1)
      by (Deeper name ds f own) later = let r = later (off f) in (r.0, ap (λ (y : Sense). with_suffix y (suffixes w s sense ks)) own ∙ r.1)
      by (Suffix c t own) later =
          let same : k ≡ x = some_one (sym (ap (λ (b : Bool). if b then Some k else first_where (is_a s p_suffix) ks) t) ∙ e) in
          (suffixes w s sense ks, ap (λ (y : Sense). with_suffix y (suffixes w s sense ks)) (ap sense same ∙ is))

  no_stars : (ks : List ℕ) → ((k : ℕ) → contains ks k ≡ true → has_sign s sign_star k ≡ false) → stars w s sense ks ≡ []
  no_stars [] h = refl
  no_stars (k ∷ ks) h =
      ap (λ (b : Bool). if b then Pointing ∷ stars w s sense ks else stars w s sense ks) (h k (ap (λ (b : Bool). b || contains ks k) (eq-eqb k k refl)))
      ∙ no_stars ks (λ j c. h j (more (nat_eq k j) (contains ks j) c))
    where
      more : (a b : Bool) → b ≡ true → (a || b) ≡ true
      more true b e = refl
      more false b e = e

  -- where no part is a declarator, and where one alone is
  none_inner : (ks : List ℕ) → ((k : ℕ) → contains ks k ≡ true → (name : Option ℕ) (ds : List Derivation) → sense k ≡ IsDeclarator name ds → ⊥) → inner_derivations w s sense ks ≡ []
  none_inner [] h = refl
  none_inner (k ∷ ks) h = by (sense k) refl (λ g. none_inner ks g)
    where
      more : (a b : Bool) → b ≡ true → (a || b) ≡ true
      more true b e = refl
      more false b e = e

      by : (x : Sense) → sense k ≡ x → (((j : ℕ) → contains ks j ≡ true → (name : Option ℕ) (ds : List Derivation) → sense j ≡ IsDeclarator name ds → ⊥) → inner_derivations w s sense ks ≡ []) → with_inner x (inner_derivations w s sense ks) ≡ []
      by (IsDeclarator name ds) e later = absurd (h k (ap (λ (b : Bool). b || contains ks k) (eq-eqb k k refl)) name ds e)
      by x e later = later (λ j c. h j (more (nat_eq k j) (contains ks j) c))

  one_inner : (ks : List ℕ) (c : ℕ) (name : Option ℕ) (ds : List Derivation) → contains ks c ≡ true → sense c ≡ IsDeclarator name ds → ((k : ℕ) → contains ks k ≡ true → (other : Option ℕ) (es : List Derivation) → sense k ≡ IsDeclarator other es → k ≡ c)
      → inner_derivations w s sense ks ≡ ds
  one_inner [] c name ds at is h = cc
  one_inner (k ∷ ks) c name ds at is h = pick (sense k) refl (nat_eq k c) refl at (λ d g. one_inner ks c name ds d is g)
    where
      more : (a b : Bool) → b ≡ true → (a || b) ≡ true
      more true b e = refl
      more false b e = e

      pick : (x : Sense) → sense k ≡ x → (b : Bool) → nat_eq k c ≡ b → (b || contains ks c) ≡ true
          → (contains ks c ≡ true → ((j : ℕ) → contains ks j ≡ true → (other : Option ℕ) (es : List Derivation) → sense j ≡ IsDeclarator other es → j ≡ c) → inner_derivations w s sense ks ≡ ds) → with_inner x (inner_derivations w s sense ks) ≡ ds
      pick x e true same d later = ap (λ (y : Sense). with_inner y (inner_derivations w s sense ks)) (sym e ∙ (ap sense (eqb-true k c same) ∙ is))
      pick (IsDeclarator other es) e false same d later = absurd (no_both (nat_eq k c) (eq-eqb k c (h k (ap (λ (b : Bool). b || contains ks k) (eq-eqb k k refl)) other es e)) same)
      pick x e false same d later = later d (λ j q. h j (more (nat_eq k j) (contains ks j) q))

-- ---- the senses of parts

module _ (s : Source) (senses : List Sense) (grown : Grown s) (are : AreSenses s senses) (whole : length senses ≡ length s.nodes) where
  abbrev pub f : ℕ → Sense
  f = sense_in senses

  abbrev F : ℕ → ℕ → Sense
  F m = known_at s senses m

  abbrev W : ℕ → World
  W m = world_of s senses m

  fits_same : {x y : Sense} → ◌≡◌ {A = Given Sense} (Fits x) (Fits y) → x ≡ y
  fits_same e = cc

  inside : (m k : ℕ) → contains (children_at s m) k ≡ true → k < length senses
  inside m k c = let before = grown.before m k c in let within = grown.within m k c in omega (arith, before, within, whole)

  suffix_gives : (k : ℕ) (children : List ℕ) → suffix_row (W k) s (F k) k children ≡ Fits (f k) → (d : Derivation) × (f k ≡ IsDerivation d)
  suffix_gives k [] e = cc
  suffix_gives k (first ∷ rest) e = by (has_sign s sign_left_bracket first) e
    where
      of : (g : Given Derivation) → (g >>= (λ d. Fits (IsDerivation d))) ≡ Fits (f k) → (d : Derivation) × (f k ≡ IsDerivation d)
      of (Fits d) h = (d, sym (fits_same h))
      of (Refuses kind node) h = cc

      by : (b : Bool) → (if b then (array_suffix (W k) s (F k) k rest >>= (λ d. Fits (IsDerivation d))) else Fits (IsDerivation (list_of (W k) s (F k) (any_where (has_sign s sign_ellipsis) rest) (parameters_in (W k) s (F k) rest)))) ≡ Fits (f k)
          → (d : Derivation) × (f k ≡ IsDerivation d)
      by true h = of (array_suffix (W k) s (F k) k rest) h
      by false h = (list_of (W k) s (F k) (any_where (has_sign s sign_ellipsis) rest) (parameters_in (W k) s (F k) rest), sym (fits_same h))

  -- a suffix is a derivation, and the other parts that are no declarator are nothing
  abbrev IsOtherPart : ℕ → ℕ → Type 0
  IsOtherPart m k = ((is_a s p_suffix k ≡ false) × (F m k ≡ Nothing)) ⊎ ((d : Derivation) × (is_a s p_suffix k ≡ true) × (F m k ≡ IsDerivation d))

  other_part : (m k : ℕ) → contains (children_at s m) k ≡ true → is_other s k ≡ true → IsOtherPart m k
  other_part m k c other = by (production_at s k) refl (of_node (slice_get s.nodes k) other)
    where
      lt : k < m
      lt = grown.before m k c

      of : (p : ℕ) (z : Bool) → (contains (9 ∷ 22 ∷ []) p || (contains (leaf ∷ []) p && z)) ≡ true → (p ≡ 9) ⊎ ((p ≡ 22) ⊎ (p ≡ leaf))
      of p z h = pick (nat_eq 9 p) (nat_eq 22 p) (nat_eq leaf p) refl refl refl h
        where
          pick : (a b d : Bool) → nat_eq 9 p ≡ a → nat_eq 22 p ≡ b → nat_eq leaf p ≡ d → ((a || (b || false)) || ((d || false) && z)) ≡ true → (p ≡ 9) ⊎ ((p ≡ 22) ⊎ (p ≡ leaf))
          pick true b d ea eb ed h = inl (sym (eqb-true 9 p ea))
          pick false true d ea eb ed h = inr (inl (sym (eqb-true 22 p eb)))
          pick false false true ea eb ed h = inr (inr (sym (eqb-true leaf p ed)))
          pick false false false ea eb ed h = cc

      of_node : (o : Option SyntaxNode) → is_other_in s o ≡ true → (production_of o ≡ 9) ⊎ ((production_of o ≡ 22) ⊎ (production_of o ≡ leaf))
      of_node o h = of (production_of o) (not (is_identifier (kind_of_token (token_of s o)))) h

      by : (p : ℕ) → production_at s k ≡ p → (p ≡ 9) ⊎ ((p ≡ 22) ⊎ (p ≡ leaf)) → IsOtherPart m k
      by p at (inl e) =
          let is : is_a s 9 k ≡ true = eq-eqb (production_at s k) 9 (at ∙ e) in
          let own = row_as s senses are 9 k (inside m k c) is in
          inl (ap (λ (q : ℕ). nat_eq q p_suffix) (at ∙ e), known s senses m k lt ∙ sym (fits_same own))
      by p at (inr (inl e)) =
          let is : is_a s 22 k ≡ true = eq-eqb (production_at s k) 22 (at ∙ e) in
          let d = suffix_gives k (children_at s k) (row_as s senses are 22 k (inside m k c) is) in
          inr (d.0, is, known s senses m k lt ∙ d.1)
      by p at (inr (inr e)) =
          let is : is_a s leaf k ≡ true = eq-eqb (production_at s k) leaf (at ∙ e) in
          let own = row_as s senses are leaf k (inside m k c) is in
          inl (ap (λ (q : ℕ). nat_eq q p_suffix) (at ∙ e), known s senses m k lt ∙ sym (fits_same own))

  part_of : (m k : ℕ) → IsOtherPart m k → Part (W m) s (F m) k
  part_of m k (inl h) = Quiet h.0 h.1
  part_of m k (inr h) = Suffix h.0 h.1 h.2

  no_declarator : (m k : ℕ) → IsOtherPart m k → (n : Option ℕ) (ds : List Derivation) → F m k ≡ IsDeclarator n ds → ⊥
  no_declarator m k (inl h) n ds q = let no : Nothing ≡ IsDeclarator n ds = sym h.1 ∙ q in cc
  no_declarator m k (inr h) n ds q = let no : IsDerivation h.0 ≡ IsDeclarator n ds = sym h.2 ∙ q in cc

  -- the sense of a declarator
  gives : (m : ℕ) → m < length senses → (is_a s p_declarator m ≡ true) ⊎ (is_a s p_either m ≡ true) → IsDeclarator (name_in (W m) s (F m) (children_at s m)) (derivations (W m) s (F m) (children_at s m)) ≡ f m
  gives m lt (inl is) = declarator_gives (W m) s (F m) m (children_at s m) (f m) (row_as s senses are p_declarator m lt is)
  gives m lt (inr is) = declarator_gives (W m) s (F m) m (children_at s m) (f m) (row_as s senses are p_either m lt is)

  declares : (m : ℕ) → (is_a s p_declarator m ≡ true) ⊎ (is_a s p_either m ≡ true) → IsDeclaring s m
  declares m (inl is) = subst (λ (p : ℕ). contains (19 ∷ 20 ∷ 21 ∷ []) p ≡ true) (sym (eqb-true (production_at s m) p_declarator is)) refl
  declares m (inr is) = subst (λ (p : ℕ). contains (19 ∷ 20 ∷ 21 ∷ []) p ≡ true) (sym (eqb-true (production_at s m) p_either is)) refl

  form : (m : ℕ) → (is_a s p_declarator m ≡ true) ⊎ (is_a s p_either m ≡ true) → is_declarator s m ≡ true
  form m (inl is) = subst (λ (p : ℕ). ((nat_eq p p_declarator || nat_eq p p_abstract) || nat_eq p p_either) ≡ true) (sym (eqb-true (production_at s m) p_declarator is)) refl
  form m (inr is) = subst (λ (p : ℕ). ((nat_eq p p_declarator || nat_eq p p_abstract) || nat_eq p p_either) ≡ true) (sym (eqb-true (production_at s m) p_either is)) refl

  -- a suffix that is a list makes a function
  list_ends : (k : ℕ) → k < length senses → is_a s p_suffix k ≡ true → is_list s.tokens (nodes s) k ≡ true → (d : Derivation) → f k ≡ IsDerivation d → Ends (d ∷ [])
  unfolding is_list
  list_ends k lt is list d sense = by (children_at s k) (subst (λ (l : List ℕ). begins_with s.tokens (nodes s) sign_left_parenthesis (syntax.first_of l) ≡ true) (children_are s k) list) (row_as s senses are 22 k lt is)
    where
      no_bracket : (o : Option ℕ) → is_number o sign_left_parenthesis ≡ true → is_number o sign_left_bracket ≡ false
      no_bracket None h = cc
      no_bracket (Some g) h = subst (λ (x : ℕ). nat_eq x sign_left_bracket ≡ false) (sym (eqb-true g sign_left_parenthesis h)) refl

      ends : (b : Bool) (ps : List Parameter) → ◌≡◌ {A = Given Sense} (Fits (IsDerivation (list_of (W k) s (F k) b ps))) (Fits (f k)) → Ends (d ∷ [])
      ends b ps e =
          let r = list_returns s senses grown are whole (W k) (F k) b ps in
          let own : IsDerivation (list_of (W k) s (F k) b ps) ≡ IsDerivation d = fits_same e ∙ sense in
          let same : Returning r.0 r.1 ≡ d = sym r.2 ∙ derivation_same own in
          record { before = []; parameters = r.0; form = r.1; are = ap (λ (x : Derivation). x ∷ []) (sym same) }
        where
          derivation_same : {x y : Derivation} → IsDerivation x ≡ IsDerivation y → x ≡ y
          derivation_same e = cc

      by : (l : List ℕ) → begins_with s.tokens (nodes s) sign_left_parenthesis (syntax.first_of l) ≡ true → suffix_row (W k) s (F k) k l ≡ Fits (f k) → Ends (d ∷ [])
      by [] h e = cc
      by (first ∷ rest) h e =
          let sign : has_sign s sign_left_parenthesis first ≡ true = sym (sign_same s sign_left_parenthesis first) ∙ h in
          let parts = both (is_leaf s first) (is_number (sign_at s first) sign_left_parenthesis) sign in
          let none : has_sign s sign_left_bracket first ≡ false = ap (λ (b : Bool). b && is_number (sign_at s first) sign_left_bracket) parts.0 ∙ no_bracket (sign_at s first) parts.1 in
          ends (any_where (has_sign s sign_ellipsis) rest) (parameters_in (W k) s (F k) rest)
          (sym (ap (λ (b : Bool). if b then (array_suffix (W k) s (F k) k rest >>= (λ x. Fits (IsDerivation x))) else Fits (IsDerivation (list_of (W k) s (F k) (any_where (has_sign s sign_ellipsis) rest) (parameters_in (W k) s (F k) rest)))) none) ∙ e)

  -- ---- a declarator

  module _ (m : ℕ) (lt : m < length senses) (is : (is_a s p_declarator m ≡ true) ⊎ (is_a s p_either m ≡ true)) where
    -- where one part is no other, and that is no suffix
    module _ (x : ℕ) (child : contains (children_at s m) x ≡ true) (no_other : is_other s x ≡ false) (own : Part (W m) s (F m) x) where
      each : (k : ℕ) → contains (children_at s m) k ≡ true → Part (W m) s (F m) k
      each k c = elim (only_one s (children_at s m) x k (grown.one m (declares m is)) child no_other c) [ inl same ↦ subst (Part (W m) s (F m)) (sym same) own | inr other ↦ part_of m k (other_part m k c other) ]

      all_parts : (list : List ℕ) → ((k : ℕ) → contains list k ≡ true → contains (children_at s m) k ≡ true) → AllParts (W m) s (F m) list
      all_parts [] sub = tt
      all_parts (k ∷ list) sub = (each k (sub k (ap (λ (b : Bool). b || contains list k) (eq-eqb k k refl))), all_parts list (λ j c. sub j (more (nat_eq k j) (contains list j) c)))
        where
          more : (a b : Bool) → b ≡ true → (a || b) ≡ true
          more true b e = refl
          more false b e = e

      parts : AllParts (W m) s (F m) (children_at s m)
      parts = all_parts (children_at s m) (λ k c. c)

      level_function : (inner : List Derivation) → derivation_of s.tokens (nodes s) m ≡ Function → inner ≡ [] → Ends (stars (W m) s (F m) (children_at s m) ++ (reverse (suffixes (W m) s (F m) (children_at s m)) ++ inner))
      unfolding derivation_of
      level_function inner e none = by (first_where (is_a s p_suffix) (children_at s m)) refl (subst (λ (o : Option ℕ). by_suffix s.tokens (nodes s) m o ≡ Function) first e)
        where
          first : find (λ c. syntax.is_of (nodes s) p_suffix c) (syntax.children_at (nodes s) m) ≡ first_where (is_a s p_suffix) (children_at s m)
          first = find_same (λ c. syntax.is_of (nodes s) p_suffix c) (is_a s p_suffix) (syntax.children_at (nodes s) m) (λ k. part_same s p_suffix k refl refl) ∙ ap (first_where (is_a s p_suffix)) (children_are s m)

          by : (o : Option ℕ) → first_where (is_a s p_suffix) (children_at s m) ≡ o → by_suffix s.tokens (nodes s) m o ≡ Function → Ends (stars (W m) s (F m) (children_at s m) ++ (reverse (suffixes (W m) s (F m) (children_at s m)) ++ inner))
          by None at h = pick (has_star s.tokens (nodes s) m) h
            where
              pick : {A : Type 0} → (b : Bool) → (if b then Other else Bare) ≡ Function → A
              pick true k = cc
              pick false k = cc
          by (Some k) at h = with_list (is_list s.tokens (nodes s) k) refl h
            where
              with_list : (b : Bool) → is_list s.tokens (nodes s) k ≡ b → (if b then Function else Other) ≡ Function → Ends (stars (W m) s (F m) (children_at s m) ++ (reverse (suffixes (W m) s (F m) (children_at s m)) ++ inner))
              with_list false l q = cc
              with_list true l q =
                  let in_k = first_passes (is_a s p_suffix) (children_at s m) k at in
                  let d = suffix_gives k (children_at s k) (row_as s senses are 22 k (inside m k in_k.0) in_k.1) in
                  let here : F m k ≡ IsDerivation d.0 = known s senses m k (grown.before m k in_k.0) ∙ d.1 in
                  let list = first_suffix (W m) s (F m) (children_at s m) k d.0 parts at here in
                  let own : Ends (d.0 ∷ []) = list_ends k (inside m k in_k.0) in_k.1 l d.0 d.1 in
                  let back : reverse (suffixes (W m) s (F m) (children_at s m)) ++ inner ≡ reverse list.0 ++ d.0 ∷ [] =
                  ap (λ (ds : List Derivation). reverse ds ++ inner) list.1 ∙ (ap (λ (ds : List Derivation). ds ++ inner) (reverse-append (d.0 ∷ []) list.0) ∙ (ap (λ (ds : List Derivation). (reverse list.0 ++ d.0 ∷ []) ++ ds) none ∙ append-nil (reverse list.0 ++ d.0 ∷ []))) in
                  ends_more (stars (W m) s (F m) (children_at s m)) (reverse (suffixes (W m) s (F m) (children_at s m)) ++ inner) (subst Ends (sym back) (ends_more (reverse list.0) (d.0 ∷ []) own))

      level_bare : (inner : List Derivation) → derivation_of s.tokens (nodes s) m ≡ Bare → inner ≡ [] → stars (W m) s (F m) (children_at s m) ++ (reverse (suffixes (W m) s (F m) (children_at s m)) ++ inner) ≡ []
      unfolding derivation_of has_star
      level_bare inner e none = by (first_where (is_a s p_suffix) (children_at s m)) refl (subst (λ (o : Option ℕ). by_suffix s.tokens (nodes s) m o ≡ Bare) first e)
        where
          first : find (λ c. syntax.is_of (nodes s) p_suffix c) (syntax.children_at (nodes s) m) ≡ first_where (is_a s p_suffix) (children_at s m)
          first = find_same (λ c. syntax.is_of (nodes s) p_suffix c) (is_a s p_suffix) (syntax.children_at (nodes s) m) (λ k. part_same s p_suffix k refl refl) ∙ ap (first_where (is_a s p_suffix)) (children_are s m)

          by : (o : Option ℕ) → first_where (is_a s p_suffix) (children_at s m) ≡ o → by_suffix s.tokens (nodes s) m o ≡ Bare → stars (W m) s (F m) (children_at s m) ++ (reverse (suffixes (W m) s (F m) (children_at s m)) ++ inner) ≡ []
          by (Some k) at h = pick (is_list s.tokens (nodes s) k) h
            where
              pick : {A : Type 0} → (b : Bool) → (if b then Function else Other) ≡ Bare → A
              pick true q = cc
              pick false q = cc
          by None at h = pick (list_any (λ c. syntax.is_sign s.tokens (nodes s) c sign_star) (syntax.children_at (nodes s) m)) refl h
            where
              pick : (b : Bool) → list_any (λ c. syntax.is_sign s.tokens (nodes s) c sign_star) (syntax.children_at (nodes s) m) ≡ b → (if b then Other else Bare) ≡ Bare
                  → stars (W m) s (F m) (children_at s m) ++ (reverse (suffixes (W m) s (F m) (children_at s m)) ++ inner) ≡ []
              pick true l q = cc
              pick false l q =
                  let plain : list_any (λ c. syntax.is_sign s.tokens (nodes s) c sign_star) (children_at s m) ≡ false = ap (λ (list : List ℕ). list_any (λ c. syntax.is_sign s.tokens (nodes s) c sign_star) list) (sym (children_are s m)) ∙ l in
                  let no_star = none_any (λ c. syntax.is_sign s.tokens (nodes s) c sign_star) (has_sign s sign_star) (children_at s m) (λ k. sign_same s sign_star k) plain in
                  ap (λ (ds : List Derivation). ds ++ (reverse (suffixes (W m) s (F m) (children_at s m)) ++ inner)) (no_stars (W m) s (F m) (children_at s m) no_star)
                  ∙ (ap (λ (ds : List Derivation). reverse ds ++ inner) (no_suffixes (W m) s (F m) (children_at s m) parts at) ∙ none)

  -- what name resolution says of a declarator holds of its sense
  pub record Says (m x : ℕ) (d : Derives) : Type 0 where
    pub name : Option ℕ
    pub derives : List Derivation
    pub sense : f m ≡ IsDeclarator name derives
    pub named : IsNamed s m x
    pub function : d ≡ Function → Ends derives
    pub bare : d ≡ Bare → derives ≡ []

  own_level : (m x : ℕ) → m < length senses → (is_a s p_declarator m ≡ true) ⊎ (is_a s p_either m ≡ true) → name_of s.tokens (nodes s) m ≡ Some x → Says m x (derivation_of s.tokens (nodes s) m)
  unfolding name_of
  own_level m x lt is e =
      let found = found_in (λ child. syntax.is_name s.tokens (nodes s) child) (syntax.children_at (nodes s) m) x e in
      let child : contains (children_at s m) x ≡ true = subst (λ (l : List ℕ). contains l x ≡ true) (children_are s m) found.0 in
      let name : is_name s x ≡ true = sym (name_same s x) ∙ found.1 in
      let no_other = name_no_other s x name in
      let leaf_is : is_a s leaf x ≡ true = (both (is_a s leaf x) (is_identifier (kind_at s x)) name).0 in
      let nothing : F m x ≡ Nothing = known s senses m x (grown.before m x child) ∙ sym (fits_same (row_as s senses are leaf x (inside m x child) leaf_is)) in
      let quiet : Part (W m) s (F m) x = Quiet (subst (λ (q : ℕ). nat_eq q p_suffix ≡ false) (sym (eqb-true (production_at s x) leaf leaf_is)) refl) nothing in
      let none : inner_derivations (W m) s (F m) (children_at s m) ≡ [] = none_inner (W m) s (F m) (children_at s m) (λ k c n ds q. only child no_other nothing k c n ds q) in
      record {
        name = name_in (W m) s (F m) (children_at s m);
        derives = derivations (W m) s (F m) (children_at s m);
        sense = sym (gives m lt is);
        named = Own child name;
        function = λ d. level_function m lt is x child no_other quiet (inner_derivations (W m) s (F m) (children_at s m)) d none;
        bare = λ d. level_bare m lt is x child no_other quiet (inner_derivations (W m) s (F m) (children_at s m)) d none;
      }
    where
      only : contains (children_at s m) x ≡ true → is_other s x ≡ false → F m x ≡ Nothing → (k : ℕ) → contains (children_at s m) k ≡ true → (n : Option ℕ) (ds : List Derivation) → F m k ≡ IsDeclarator n ds → ⊥
      only child no_other nothing k c n ds q = elim (only_one s (children_at s m) x k (grown.one m (declares m is)) child no_other c) [ inl same ↦ never (sym nothing ∙ (ap (F m) (sym same) ∙ q)) | inr other ↦ no_declarator m k (other_part m k c other) n ds q ]
        where
          never : Nothing ≡ IsDeclarator n ds → ⊥
          never h = cc

  inner_level : (m c x : ℕ) (d : Derives) → m < length senses → (is_a s p_declarator m ≡ true) ⊎ (is_a s p_either m ≡ true) → contains (children_at s m) c ≡ true → (is_a s p_declarator c ≡ true) ⊎ (is_a s p_either c ≡ true) → Says c x d
      → Says m x (nearest d (derivation_of s.tokens (nodes s) m))
  inner_level m c x d lt is child own says = record {
    name = name_in (W m) s (F m) (children_at s m);
    derives = derivations (W m) s (F m) (children_at s m);
    sense = sym (gives m lt is);
    named = Inner c child (form c own) says.named;
    function = λ e. by_function d refl e;
    bare = λ e. by_bare d refl e;
  }
    where
      no_other : is_other s c ≡ false
      no_other = elim own [ inl h ↦ of_no_other s p_declarator c h refl | inr h ↦ of_no_other s p_either c h refl ]

      no_suffix : is_a s p_suffix c ≡ false
      no_suffix = elim own [
        | inl h ↦ subst (λ (q : ℕ). nat_eq q p_suffix ≡ false) (sym (eqb-true (production_at s c) p_declarator h)) refl
        | inr h ↦ subst (λ (q : ℕ). nat_eq q p_suffix ≡ false) (sym (eqb-true (production_at s c) p_either h)) refl
      ]

      here : F m c ≡ IsDeclarator says.name says.derives
      here = known s senses m c (grown.before m c child) ∙ says.sense

      deeper : Part (W m) s (F m) c
      deeper = Deeper says.name says.derives no_suffix here

      inner_is : inner_derivations (W m) s (F m) (children_at s m) ≡ says.derives
      inner_is =
          one_inner (W m) s (F m) (children_at s m) c says.name says.derives child here
          (λ k at n ds q. elim (only_one s (children_at s m) c k (grown.one m (declares m is)) child no_other at) [ inl same ↦ same | inr other ↦ absurd (no_declarator m k (other_part m k at other) n ds q) ])

      none : d ≡ Bare → inner_derivations (W m) s (F m) (children_at s m) ≡ []
      none e = inner_is ∙ says.bare e

      by_function : (z : Derives) → d ≡ z → nearest d (derivation_of s.tokens (nodes s) m) ≡ Function → Ends (derivations (W m) s (F m) (children_at s m))
      by_function Bare e h = level_function m lt is c child no_other deeper (inner_derivations (W m) s (F m) (children_at s m)) (sym (ap (λ (y : Derives). nearest y (derivation_of s.tokens (nodes s) m)) e) ∙ h) (none e)
      by_function Function e h =
          ends_more (stars (W m) s (F m) (children_at s m)) (reverse (suffixes (W m) s (F m) (children_at s m)) ++ inner_derivations (W m) s (F m) (children_at s m))
          (ends_more (reverse (suffixes (W m) s (F m) (children_at s m))) (inner_derivations (W m) s (F m) (children_at s m)) (subst Ends (sym inner_is) (says.function e)))
      by_function Other e h = let no : Other ≡ Function = sym (ap (λ (y : Derives). nearest y (derivation_of s.tokens (nodes s) m)) e) ∙ h in cc

      by_bare : (z : Derives) → d ≡ z → nearest d (derivation_of s.tokens (nodes s) m) ≡ Bare → derivations (W m) s (F m) (children_at s m) ≡ []
      by_bare Bare e h = level_bare m lt is c child no_other deeper (inner_derivations (W m) s (F m) (children_at s m)) (sym (ap (λ (y : Derives). nearest y (derivation_of s.tokens (nodes s) m)) e) ∙ h) (none e)
      by_bare Function e h = let no : Function ≡ Bare = sym (ap (λ (y : Derives). nearest y (derivation_of s.tokens (nodes s) m)) e) ∙ h in cc
      by_bare Other e h = let no : Other ≡ Bare = sym (ap (λ (y : Derives). nearest y (derivation_of s.tokens (nodes s) m)) e) ∙ h in cc

  inner_part : (m c : ℕ) → inner_of (nodes s) m ≡ Some c → (contains (children_at s m) c ≡ true) × ((is_a s p_declarator c ≡ true) ⊎ (is_a s p_either c ≡ true))
  unfolding inner_of
  inner_part m c e =
      let found = found_in (λ child. is_inner (nodes s) m child) (syntax.children_at (nodes s) m) c e in
      let which = (both (syntax.is_of (nodes s) p_declarator c || syntax.is_of (nodes s) p_either c) _ found.1).0 in
      (subst (λ (l : List ℕ). contains l c ≡ true) (children_are s m) found.0, either (syntax.is_of (nodes s) p_declarator c) (syntax.is_of (nodes s) p_either c) (part_same s p_declarator c refl refl) (part_same s p_either c refl refl) which)
    where
      either : (a b : Bool) {x y : Bool} → a ≡ x → b ≡ y → (a || b) ≡ true → (x ≡ true) ⊎ (y ≡ true)
      either true b ea eb h = inl (sym ea)
      either false b ea eb h = inr (sym eb ∙ h)

  says_within : (levels m x : ℕ) → m < length senses → (is_a s p_declarator m ≡ true) ⊎ (is_a s p_either m ≡ true) → (within s.tokens (nodes s) levels m).name ≡ Some x → Says m x (within s.tokens (nodes s) levels m).derivation
  says_within zero m x lt is e = cc
  says_within (suc levels) m x lt is e = by (inner_of (nodes s) m) refl e (says_within levels)
    where
      by : (o : Option ℕ) → inner_of (nodes s) m ≡ o → (level s.tokens (nodes s) (within s.tokens (nodes s) levels) m o).name ≡ Some x
          → ((c y : ℕ) → c < length senses → (is_a s p_declarator c ≡ true) ⊎ (is_a s p_either c ≡ true) → (within s.tokens (nodes s) levels c).name ≡ Some y → Says c y (within s.tokens (nodes s) levels c).derivation)
          → Says m x (level s.tokens (nodes s) (within s.tokens (nodes s) levels) m o).derivation
      by None at h later = own_level m x lt is h
      by (Some c) at h later = let part = inner_part m c at in inner_level m c x (within s.tokens (nodes s) levels c).derivation lt is part.0 part.1 (later c x (inside m c part.0) part.1 h)

  pub says : (m x : ℕ) → m < length senses → (is_a s p_declarator m ≡ true) ⊎ (is_a s p_either m ≡ true) → (declarator s.tokens (nodes s) m).name ≡ Some x → Says m x (declarator s.tokens (nodes s) m).derivation
  unfolding declarator
  says m x lt is e = says_within (suc m) m x lt is e
