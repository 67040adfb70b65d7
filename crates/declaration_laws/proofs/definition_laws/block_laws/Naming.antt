-- From the name of a declarator up to its outermost declarator, which stands for that name.
use Rattle.std.proofs.Common.{arith, ◌≡◌, ◌<◌, ℕ, zero, suc, ◌||◌, ◌&&◌, ◌==◌, not, nat_eq, Bool, true, false, cond, List, [], ◌∷◌, Option, Some, None, take, length, slice_get, refl, sym, ap, ◌∙◌, subst, ◌⊎◌, inl, inr}
use Rattle.std.specs.Prelude.{is_some, if◌then◌else◌}
use Rattle.std.proofs.lemmas.Bool.{eqb-true}
use Rattle.std.proofs.lemmas.List.{get_or-take}
use Rattle.pta_base.specs.declared.kind.Kind.{Kind}
use Rattle.pta_base.specs.declared.kind.Kind.TheVariants.{Operand, InlineDefinition}
use Rattle.c_types.specs.Trees.{Ctype}
use Rattle.c_grammar.specs.declared.trees.SyntaxNode.{SyntaxNode}
use Rattle.c_grammar.specs.Productions.{p_field, p_declarator, p_abstract, p_either, p_parameter}
use Rattle.c_grammar.specs.Words.{word_inline, word_static, sign_left_bracket, sign_ellipsis}
use Rattle.c_grammar.specs.Terminals.{contains}
use Rattle.c_grammar.specs.Reads.{leaf}
use Rattle.c_senses.specs.Tree.{Source, production_of, children_of, production_at, children_at, is_a, is_name, is_identifier, kind_of_token, token_of, has_sign, first_where, any_where, all_nodes, parent_of, above_within}
use Rattle.c_senses.specs.World.{World, has_size}
use Rattle.c_senses.specs.Given.{Given, Fits, Refuses, ◌>>=◌, given_if}
use Rattle.c_senses.specs.Declarators.{is_declarator, is_outermost, outermost_of, base_type, derived, adjusted, inner_name, name_in, derivations, derives_well, type_fits, suffix_row, array_suffix, list_of, parameters_in}
use Rattle.c_senses.specs.Entities.{initialiser_of, is_defined, words_go, is_same_again, has_one_linkage, internal_fits, is_name_complete, definition_row, result_of, is_void_type, has_function_word, has_storage, named_row, parameter_named, defined_parameter, is_parameter_complete, by_place}
use Rattle.c_senses.specs.Sense.{Sense, Nothing, IsDeclarator, IsDerivation, Derivation, sense_in}
use Rattle.c_senses.specs.Rows.{row_of, world_at, AreSenses, at_its_name, declarator_row}
use Rattle.core_node_laws.proofs.count_laws.passed.parsed_tree_laws.placed_laws.Rows.{declarators}
use Rattle.core_node_laws.proofs.count_laws.passed.parsed_tree_laws.placed_laws.Climbing.{equal, no_both, exists_at, found_where, is_other_in, is_other, AllOther, AtMostOne, IsDeclaring, IsNamedPart, Grown, row_at}

three_of : (p : ℕ) → contains declarators p ≡ true → (p ≡ 19) ⊎ ((p ≡ 20) ⊎ (p ≡ 21))
three_of p h = by (nat_eq 19 p) (nat_eq 20 p) (nat_eq 21 p) refl refl refl h
  where
    by : (a b c : Bool) → nat_eq 19 p ≡ a → nat_eq 20 p ≡ b → nat_eq 21 p ≡ c → (a || (b || (c || false))) ≡ true → (p ≡ 19) ⊎ ((p ≡ 20) ⊎ (p ≡ 21))
    by true b c ea eb ec h = inl (sym (eqb-true 19 p ea))
    by false true c ea eb ec h = inr (inl (sym (eqb-true 20 p eb)))
    by false false true ea eb ec h = inr (inr (sym (eqb-true 21 p ec)))
    by false false false ea eb ec h = cc

-- what holds at the three holds at each of them
at_three : (P : ℕ → Type 0) (p : ℕ) → contains declarators p ≡ true → P 19 → P 20 → P 21 → P p
at_three P p h a b c = by (three_of p h)
  where
    by : (p ≡ 19) ⊎ ((p ≡ 20) ⊎ (p ≡ 21)) → P p
    by (inl e) = subst P (sym e) a
    by (inr (inl e)) = subst P (sym e) b
    by (inr (inr e)) = subst P (sym e) c

declared_of : (p : ℕ) → (p == p_declarator || p == p_abstract || p == p_either) ≡ true → contains declarators p ≡ true
declared_of p h = by (nat_eq p 19) (nat_eq p 20) (nat_eq p 21) refl refl refl h
  where
    by : (a b c : Bool) → nat_eq p 19 ≡ a → nat_eq p 20 ≡ b → nat_eq p 21 ≡ c → (a || b || c) ≡ true → contains declarators p ≡ true
    by true b c ea eb ec h = subst (λ (x : ℕ). contains declarators x ≡ true) (sym (eqb-true p 19 ea)) refl
    by false true c ea eb ec h = subst (λ (x : ℕ). contains declarators x ≡ true) (sym (eqb-true p 20 eb)) refl
    by false false true ea eb ec h = subst (λ (x : ℕ). contains declarators x ≡ true) (sym (eqb-true p 21 ec)) refl
    by false false false ea eb ec h = cc

of_declared : (p : ℕ) → contains declarators p ≡ true → (p == p_declarator || p == p_abstract || p == p_either) ≡ true
of_declared p h = at_three (λ (x : ℕ). (x == p_declarator || x == p_abstract || x == p_either) ≡ true) p h refl refl refl

-- the productions of the other parts of a declarator
others_of : (p : ℕ) (z : Bool) → (contains (9 ∷ 22 ∷ []) p || (contains (leaf ∷ []) p && z)) ≡ true → (p ≡ 9) ⊎ ((p ≡ 22) ⊎ (p ≡ leaf))
others_of p z h = by (nat_eq 9 p) (nat_eq 22 p) (nat_eq leaf p) refl refl refl h
  where
    by : (a b c : Bool) → nat_eq 9 p ≡ a → nat_eq 22 p ≡ b → nat_eq leaf p ≡ c → ((a || (b || false)) || ((c || false) && z)) ≡ true → (p ≡ 9) ⊎ ((p ≡ 22) ⊎ (p ≡ leaf))
    by true b c ea eb ec h = inl (sym (eqb-true 9 p ea))
    by false true c ea eb ec h = inr (inl (sym (eqb-true 22 p eb)))
    by false false true ea eb ec h = inr (inr (sym (eqb-true leaf p ec)))
    by false false false ea eb ec h = cc

module _ (s : Source) where
  -- a test that only a part passes which is none of the others
  abbrev Selects : (ℕ → Bool) → Type 0
  Selects test = (k : ℕ) → is_other s k ≡ true → test k ≡ false

  none_of : (test : ℕ → Bool) → Selects test → (ks : List ℕ) → AllOther s ks → first_where test ks ≡ None
  none_of test only [] h = refl
  none_of test only (k ∷ ks) h = by (test k) (only k h.0) (none_of test only ks h.1)
    where
      by : (b : Bool) → b ≡ false → first_where test ks ≡ None → (if b then Some k else first_where test ks) ≡ None
      by true e rest = cc
      by false e rest = rest

  never_other : (ks : List ℕ) (x : ℕ) → AllOther s ks → contains ks x ≡ true → is_other s x ≡ true
  never_other [] x h c = cc
  never_other (k ∷ ks) x h c = by (nat_eq k x) refl c (λ d. never_other ks x h.1 d)
    where
      by : (b : Bool) → nat_eq k x ≡ b → (b || contains ks x) ≡ true → (contains ks x ≡ true → is_other s x ≡ true) → is_other s x ≡ true
      by true e c rest = subst (λ (y : ℕ). is_other s y ≡ true) (eqb-true k x e) h.0
      by false e c rest = rest c

  -- the one part that passes is found
  first_is : (test : ℕ → Bool) → Selects test → (ks : List ℕ) (x : ℕ) → AtMostOne s ks → contains ks x ≡ true → is_other s x ≡ false → test x ≡ true → first_where test ks ≡ Some x
  first_is test only [] x h c other is = cc
  first_is test only (k ∷ ks) x h c other is = by (nat_eq k x) refl c h (λ m d. first_is test only ks x m d other is)
    where
      left_out : (b : Bool) → b ≡ false → first_where test ks ≡ Some x → (if b then Some k else first_where test ks) ≡ Some x
      left_out true e f = cc
      left_out false e f = f

      taken : (b : Bool) → b ≡ true → (if b then Some k else first_where test ks) ≡ Some k
      taken true e = refl
      taken false e = cc

      by : (b : Bool) → nat_eq k x ≡ b → (b || contains ks x) ≡ true → AllOther s ks ⊎ ((is_other s k ≡ true) × AtMostOne s ks) → (AtMostOne s ks → contains ks x ≡ true → first_where test ks ≡ Some x) → (if test k then Some k else first_where test ks) ≡ Some x
      by true e c h later = let same : k ≡ x = eqb-true k x e in taken (test k) (subst (λ (y : ℕ). test y ≡ true) (sym same) is) ∙ ap (λ (y : ℕ). Some y) same
      by false e c (inl rest) later = absurd (no_both (is_other s x) (never_other ks x rest c) other)
      by false e c (inr rest) later = left_out (test k) (only k rest.0) (later rest.1 c)

  -- where the one part doesn't pass, none does
  none_is : (test : ℕ → Bool) → Selects test → (ks : List ℕ) (x : ℕ) → AtMostOne s ks → contains ks x ≡ true → is_other s x ≡ false → test x ≡ false → first_where test ks ≡ None
  none_is test only [] x h c other is = cc
  none_is test only (k ∷ ks) x h c other is = by (nat_eq k x) refl c h (λ m d. none_is test only ks x m d other is)
    where
      left_out : (b : Bool) → b ≡ false → first_where test ks ≡ None → (if b then Some k else first_where test ks) ≡ None
      left_out true e f = cc
      left_out false e f = f

      by : (b : Bool) → nat_eq k x ≡ b → (b || contains ks x) ≡ true → AllOther s ks ⊎ ((is_other s k ≡ true) × AtMostOne s ks) → (AtMostOne s ks → contains ks x ≡ true → first_where test ks ≡ None) → (if test k then Some k else first_where test ks) ≡ None
      by true e c (inl rest) later = left_out (test k) (subst (λ (y : ℕ). test y ≡ false) (sym (eqb-true k x e)) is) (none_of test only ks rest)
      by true e c (inr rest) later = absurd (no_both (is_other s x) (subst (λ (y : ℕ). is_other s y ≡ true) (eqb-true k x e) rest.0) other)
      by false e c (inl rest) later = absurd (no_both (is_other s x) (never_other ks x rest c) other)
      by false e c (inr rest) later = left_out (test k) (only k rest.0) (later rest.1 c)

  -- a leaf of an identifier is none of the others, and no declarator is
  names_select : Selects (is_name s)
  names_select k h = by (slice_get s.nodes k) h
    where
      bits : (p : ℕ) (z : Bool) → (contains (9 ∷ 22 ∷ []) p || (contains (leaf ∷ []) p && not z)) ≡ true → ((p == leaf) && z) ≡ false
      bits p true h = pick (others_of p false h)
        where
          pick : (p ≡ 9) ⊎ ((p ≡ 22) ⊎ (p ≡ leaf)) → ((p == leaf) && true) ≡ false
          pick (inl e) = subst (λ (x : ℕ). ((x == leaf) && true) ≡ false) (sym e) refl
          pick (inr (inl e)) = subst (λ (x : ℕ). ((x == leaf) && true) ≡ false) (sym e) refl
          pick (inr (inr e)) = let h1 : (contains (9 ∷ 22 ∷ []) leaf || (contains (leaf ∷ []) leaf && false)) ≡ true = subst (λ (x : ℕ). (contains (9 ∷ 22 ∷ []) x || (contains (leaf ∷ []) x && false)) ≡ true) e h in cc
      bits p false h = off (p == leaf)
        where
          off : (b : Bool) → (b && false) ≡ false
          off true = refl
          off false = refl

      by : (o : Option SyntaxNode) → is_other_in s o ≡ true → ((production_of o == leaf) && is_identifier (kind_of_token (token_of s o))) ≡ false
      by o h = bits (production_of o) (is_identifier (kind_of_token (token_of s o))) h

  name_no_other : (r : ℕ) → is_name s r ≡ true → is_other s r ≡ false
  name_no_other r h = by (is_other s r) refl
    where
      by : (b : Bool) → is_other s r ≡ b → b ≡ false
      by true e = absurd (no_both (is_name s r) h (names_select r e))
      by false e = refl

  declarator_no_other : (p : ℕ) → IsDeclaring s p → is_other s p ≡ false
  declarator_no_other p h = by (slice_get s.nodes p) h
    where
      by : (o : Option SyntaxNode) → contains declarators (production_of o) ≡ true → is_other_in s o ≡ false
      by o h = at_three (λ (x : ℕ). (contains (9 ∷ 22 ∷ []) x || (contains (leaf ∷ []) x && not (is_identifier (kind_of_token (token_of s o))))) ≡ false) (production_of o) h refl refl refl

  declarator_no_name : (p : ℕ) → IsDeclaring s p → is_name s p ≡ false
  declarator_no_name p h = by (slice_get s.nodes p) h
    where
      by : (o : Option SyntaxNode) → contains declarators (production_of o) ≡ true → ((production_of o == leaf) && is_identifier (kind_of_token (token_of s o))) ≡ false
      by o h = at_three (λ (x : ℕ). ((x == leaf) && is_identifier (kind_of_token (token_of s o))) ≡ false) (production_of o) h refl refl refl

abbrev IsNoDeclarator : Sense → Type 0
IsNoDeclarator (IsDeclarator name ds) = ⊥
IsNoDeclarator x = Unit {0}

fits_same : {A : Type 0} → {x y : A} → ◌≡◌ {A = Given A} (Fits x) (Fits y) → x ≡ y
fits_same e = cc

when_true : {A : Type 0} (b : Bool) (x y : A) → b ≡ true → cond b x y ≡ x
when_true true x y e = refl
when_true false x y e = cc

when_false : {A : Type 0} (b : Bool) (x y : A) → b ≡ false → cond b x y ≡ y
when_false true x y e = cc
when_false false x y e = refl

or_more : (a b : Bool) → b ≡ true → (a || b) ≡ true
or_more true b e = refl
or_more false b e = e

-- what the other parts stand for
module _ (w : World) (s : Source) (sense : ℕ → Sense) (at : ℕ) where
  suffix_gives : (children : List ℕ) (x : Sense) → suffix_row w s sense at children ≡ Fits x → IsNoDeclarator x
  suffix_gives [] x e = cc
  suffix_gives (first ∷ rest) x e = by (has_sign s sign_left_bracket first) (array_suffix w s sense at rest) e
    where
      bound : (g : Given Derivation) → (g >>= (λ d. Fits (IsDerivation d))) ≡ Fits x → IsNoDeclarator x
      bound (Fits d) e = subst IsNoDeclarator (fits_same e) tt
      bound (Refuses kind node) e = cc

      by : (b : Bool) (g : Given Derivation) → cond b (g >>= (λ d. Fits (IsDerivation d))) (Fits (IsDerivation (list_of w s sense (any_where (has_sign s sign_ellipsis) rest) (parameters_in w s sense rest)))) ≡ Fits x → IsNoDeclarator x
      by true g e = bound g e
      by false g e = subst IsNoDeclarator (fits_same e) tt

  other_gives : (p : ℕ) (children : List ℕ) (x : Sense) → (p ≡ 9) ⊎ ((p ≡ 22) ⊎ (p ≡ leaf)) → row_of w s sense p at children ≡ Fits x → IsNoDeclarator x
  other_gives p children x (inl is) e = let f : row_of w s sense 9 at children ≡ Fits x = subst (λ (q : ℕ). row_of w s sense q at children ≡ Fits x) is e in subst IsNoDeclarator (fits_same f) tt
  other_gives p children x (inr (inl is)) e = suffix_gives children x (subst (λ (q : ℕ). row_of w s sense q at children ≡ Fits x) is e)
  other_gives p children x (inr (inr is)) e = let f : row_of w s sense leaf at children ≡ Fits x = subst (λ (q : ℕ). row_of w s sense q at children ≡ Fits x) is e in subst IsNoDeclarator (fits_same f) tt

  declared_row : (p : ℕ) (children : List ℕ) → contains declarators p ≡ true → row_of w s sense p at children ≡ declarator_row w s sense at children
  declared_row p children h = at_three (λ (q : ℕ). row_of w s sense q at children ≡ declarator_row w s sense at children) p h refl refl refl

  abbrev at_name : Option ℕ → List Derivation → Given Sense
  at_name name ds = at_its_name w s sense at (Fits (IsDeclarator name ds)) (base_type w s sense at) (IsDeclarator name ds)

  -- the row of a declarator fits
  plain_fits : (children : List ℕ) (x : Sense) → declarator_row w s sense at children ≡ Fits x
      → (derives_well w s sense at (derivations w s sense children) ≡ true) × (at_name (name_in w s sense children) (derivations w s sense children) ≡ Fits x)
  plain_fits children x e = by (derives_well w s sense at (derivations w s sense children)) e
    where
      by : (b : Bool) → (given_if b Operand at (Fits (IsDeclarator (name_in w s sense children) (derivations w s sense children))) >>= (λ y. at_its_name w s sense at (Fits y) (base_type w s sense at) y)) ≡ Fits x
          → (b ≡ true) × (at_name (name_in w s sense children) (derivations w s sense children) ≡ Fits x)
      by true e = (refl, e)
      by false e = cc

  -- within the parentheses of another declarator its name is told as it is
  inner_fits : (children : List ℕ) (r : ℕ) (x : Sense) → is_outermost s at ≡ false → name_in w s sense children ≡ Some r → declarator_row w s sense at children ≡ Fits x → IsDeclarator (Some r) (derivations w s sense children) ≡ x
  inner_fits children r x inner name e =
      let ds = derivations w s sense children in
      let named : at_name (Some r) ds ≡ Fits x = subst (λ (o : Option ℕ). at_name o ds ≡ Fits x) name (plain_fits children x e).1 in
      let g : Given Sense = Fits (IsDeclarator (Some r) ds) in
      by (base_type w s sense at) named
    where
      by : (base : Option Ctype) → at_its_name w s sense at (Fits (IsDeclarator (Some r) (derivations w s sense children))) base (IsDeclarator (Some r) (derivations w s sense children)) ≡ Fits x → IsDeclarator (Some r) (derivations w s sense children) ≡ x
      by None e = fits_same e
      by (Some t) e =
          let ds = derivations w s sense children in
          let g : Given Sense = Fits (IsDeclarator (Some r) ds) in
          fits_same (sym (when_false (is_outermost s at) (by_place w s sense at r (derived ds t) (adjusted (derived ds t)) g) g inner) ∙ e)

  abbrev well : Option Ctype → List Derivation → Bool
  well base ds = elim base [ None ↦ false | Some t ↦ type_fits w s sense t ds ]

  -- an outermost declarator is asked what may be said of its name
  outer_fits : (children : List ℕ) (r : ℕ) (x : Sense) → is_outermost s at ≡ true → name_in w s sense children ≡ Some r → declarator_row w s sense at children ≡ Fits x
      → (t : Ctype) × (by_place w s sense at r (derived (derivations w s sense children) t) (adjusted (derived (derivations w s sense children) t)) (Fits (IsDeclarator (Some r) (derivations w s sense children))) ≡ Fits x)
  outer_fits children r x outer name e =
      let ds = derivations w s sense children in
      let fits = plain_fits children x e in
      let named : at_name (Some r) ds ≡ Fits x = subst (λ (o : Option ℕ). at_name o ds ≡ Fits x) name fits.1 in
      by (base_type w s sense at) (sym (when_true (is_outermost s at) (well (base_type w s sense at) ds) true outer) ∙ fits.0) named
    where
      by : (base : Option Ctype) → well base (derivations w s sense children) ≡ true → at_its_name w s sense at (Fits (IsDeclarator (Some r) (derivations w s sense children))) base (IsDeclarator (Some r) (derivations w s sense children)) ≡ Fits x
          → (t : Ctype) × (by_place w s sense at r (derived (derivations w s sense children) t) (adjusted (derived (derivations w s sense children) t)) (Fits (IsDeclarator (Some r) (derivations w s sense children))) ≡ Fits x)
      by None fit e = cc
      by (Some t) fit e =
          let ds = derivations w s sense children in
          let g : Given Sense = Fits (IsDeclarator (Some r) ds) in
          (t, sym (when_true (is_outermost s at) (by_place w s sense at r (derived ds t) (adjusted (derived ds t)) g) g outer) ∙ e)

  -- what is asked of a name leaves its declarator as it is
  asked : (b : Bool) (kind : Kind) (node : ℕ) (g h : Given Sense) (x : Sense) → (h ≡ Fits x → g ≡ Fits x) → given_if b kind node h ≡ Fits x → g ≡ Fits x
  asked true kind node g h x later e = later e
  asked false kind node g h x later e = cc

  abbrev second : ℕ → Ctype → Given Sense → Given Sense
  second r t g = given_if (not (has_function_word s sense word_inline r && not (has_storage s sense word_static r))) InlineDefinition r g

  defined_asked : (r : ℕ) (t : Ctype) (g : Given Sense) (x : Sense) → definition_row w s sense t r g ≡ Fits x → g ≡ Fits x
  defined_asked r t g x e = by (is_defined s sense r) e
    where
      by : (b : Bool) → cond b (given_if (is_void_type w s sense (result_of w s sense t) || has_size w (result_of w s sense t)) Operand r (second r t g)) g ≡ Fits x → g ≡ Fits x
      by false e = e
      by true e =
          asked (is_void_type w s sense (result_of w s sense t) || has_size w (result_of w s sense t)) Operand r g (second r t g) x
          (λ f. asked (not (has_function_word s sense word_inline r && not (has_storage s sense word_static r))) InlineDefinition r g g x (λ h. h) f) e

  named_asked : (r : ℕ) (t : Ctype) (g : Given Sense) (x : Sense) → named_row w s sense at r t g ≡ Fits x → g ≡ Fits x
  named_asked r t g x e =
      by (words_go w s sense (is_some (initialiser_of s sense at)) r) (is_same_again w s sense t r) (has_one_linkage w s sense r) (internal_fits w s sense (is_some (initialiser_of s sense at) || is_defined s sense r) t r)
      (is_name_complete w s sense (is_some (initialiser_of s sense at)) t r) e
    where
      by : (a b c d f : Bool) → given_if a Operand r (given_if b Operand r (given_if c Operand r (given_if d Operand r (given_if f Operand r (definition_row w s sense t r g))))) ≡ Fits x → g ≡ Fits x
      by false b c d f e = cc
      by true false c d f e = cc
      by true true false d f e = cc
      by true true true false f e = cc
      by true true true true false e = cc
      by true true true true true e = defined_asked r t g x e

  placed_asked : (r : ℕ) (t adjusted : Ctype) (g : Given Sense) (x : Sense) → by_place w s sense at r t adjusted g ≡ Fits x → g ≡ Fits x
  placed_asked r t adjusted g x e = by (parent_of s at) e
    where
      by : (o : Option ℕ) → (elim o as (λ _. Given Sense) [
        | None ↦ g
        | Some p ↦ if is_a s p_field p then g else (if is_a s p_parameter p then parameter_named w s sense at r adjusted g else named_row w s sense at r t g)
      ]) ≡ Fits x → g ≡ Fits x
      by None e = e
      by (Some p) e = by_kind (is_a s p_field p) (is_a s p_parameter p) e
        where
          by_kind : (a b : Bool) → cond a g (cond b (parameter_named w s sense at r adjusted g) (named_row w s sense at r t g)) ≡ Fits x → g ≡ Fits x
          by_kind true b e = e
          by_kind false true e = asked (not (defined_parameter w s sense at) || is_parameter_complete w s sense adjusted) Operand r g g x (λ f. f) e
          by_kind false false e = named_asked r t g x e

module _ (s : Source) (senses : List Sense) (grown : Grown s) (are : AreSenses s senses) (whole : length senses ≡ length s.nodes) where
  abbrev before : ℕ → ℕ → Sense
  before p = sense_in (take p senses)

  abbrev w_at : ℕ → World
  w_at p = world_at s (take p senses) p

  declared_at : (p : ℕ) → IsDeclaring s p → declarator_row (w_at p) s (before p) p (children_at s p) ≡ Fits (sense_in senses p)
  declared_at p h = by (slice_get s.nodes p) refl h
    where
      by : (o : Option SyntaxNode) → slice_get s.nodes p ≡ o → contains declarators (production_of o) ≡ true → declarator_row (w_at p) s (before p) p (children_of o) ≡ Fits (sense_in senses p)
      by None at h = cc
      by (Some n) at h = sym (declared_row (w_at p) s (before p) p n.production n.children.items h) ∙ row_at s senses grown are whole p n at

  -- a declarator with that name
  abbrev Names : ℕ → ℕ → Type 0
  Names r p = IsDeclaring s p × (name_in (w_at p) s (before p) (children_at s p) ≡ Some r)

  inner_sense : (r p : ℕ) → Names r p → is_outermost s p ≡ false → IsDeclarator (Some r) (derivations (w_at p) s (before p) (children_at s p)) ≡ sense_in senses p
  inner_sense r p names inner = inner_fits (w_at p) s (before p) p (children_at s p) r (sense_in senses p) inner names.1 (declared_at p names.0)

  others_quiet : (q k : ℕ) → contains (children_at s q) k ≡ true → is_other s k ≡ true → IsNoDeclarator (before q k)
  others_quiet q k child other =
      let k_small : k < q = grown.before q k child in
      let q_small : q < length s.nodes = grown.within q k child in
      let found = exists_at s.nodes k (omega (arith, k_small, q_small)) in
      let n : SyntaxNode = found.0 in
      let which = others_of n.production (not (is_identifier (kind_of_token (slice_get s.tokens n.token)))) (subst (λ (o : Option SyntaxNode). is_other_in s o ≡ true) found.1 other) in
      let quiet : IsNoDeclarator (sense_in senses k) = other_gives (w_at k) s (before k) k n.production n.children.items (sense_in senses k) which (row_at s senses grown are whole k n found.1) in
      subst IsNoDeclarator (sym (get_or-take q senses k Nothing k_small)) quiet

  abbrev name_or : Sense → Option ℕ → Option ℕ
  name_or x o = elim x [ IsDeclarator name ds ↦ name | _ ↦ o ]

  quiet_or : (x : Sense) (o : Option ℕ) → IsNoDeclarator x → name_or x o ≡ o
  quiet_or (IsDeclarator name ds) o h = absurd h
  quiet_or x o h = refl

  inner_found : (w : World) (sense : ℕ → Sense) (ks : List ℕ) (x r : ℕ) (ds : List Derivation) → ((k : ℕ) → contains ks k ≡ true → is_other s k ≡ true → IsNoDeclarator (sense k)) → AtMostOne s ks → contains ks x ≡ true → is_other s x ≡ false
      → IsDeclarator (Some r) ds ≡ sense x → inner_name w s sense ks ≡ Some r
  inner_found w sense [] x r ds quiet most c other is = cc
  inner_found w sense (k ∷ ks) x r ds quiet most c other is =
      by (nat_eq k x) refl c most (λ m d. inner_found w sense ks x r ds (λ j cj oj. quiet j (or_more (nat_eq k j) (contains ks j) cj) oj) m d other is)
    where
      by : (b : Bool) → nat_eq k x ≡ b → (b || contains ks x) ≡ true → AllOther s ks ⊎ ((is_other s k ≡ true) × AtMostOne s ks) → (AtMostOne s ks → contains ks x ≡ true → inner_name w s sense ks ≡ Some r) → name_or (sense k) (inner_name w s sense ks) ≡ Some r
      by true e c m later =
          let same : sense k ≡ IsDeclarator (Some r) ds = ap sense (eqb-true k x e) ∙ sym is in ap (λ (y : Sense). name_or y (inner_name w s sense ks)) same
      by false e c (inl rest) later = absurd (no_both (is_other s x) (never_other s ks x rest c) other)
      by false e c (inr rest) later = quiet_or (sense k) (inner_name w s sense ks) (quiet k (ap (λ (b : Bool). b || contains ks k) (equal k)) rest.0) ∙ later rest.1 c

  abbrev name_from : Option ℕ → Option ℕ → Option ℕ
  name_from o inner = elim o [ None ↦ inner | Some leaf ↦ Some leaf ]

  -- the node that holds the name itself
  names_own : (r p : ℕ) → IsDeclaring s p → contains (children_at s p) r ≡ true → is_name s r ≡ true → Names r p
  names_own r p is child name =
      let first : first_where (is_name s) (children_at s p) ≡ Some r = first_is s (is_name s) (names_select s) (children_at s p) r (grown.one p is) child (name_no_other s r name) name in
      (is, ap (λ (o : Option ℕ). name_from o (inner_name (w_at p) s (before p) (children_at s p))) first)

  -- the declarator around one has its name
  names_up : (r p q : ℕ) → Names r p → is_outermost s p ≡ false → contains (children_at s q) p ≡ true → IsDeclaring s q → Names r q
  names_up r p q names inner child is =
      let children = children_at s q in
      let p_small : p < q = grown.before q p child in
      let own : IsDeclarator (Some r) (derivations (w_at p) s (before p) (children_at s p)) ≡ before q p = inner_sense r p names inner ∙ sym (get_or-take q senses p Nothing p_small) in
      let none : first_where (is_name s) children ≡ None = none_is s (is_name s) (names_select s) children p (grown.one q is) child (declarator_no_other s p names.0) (declarator_no_name s p names.0) in
      let found = inner_found (w_at q) (before q) children p r (derivations (w_at p) s (before p) (children_at s p)) (others_quiet q) (grown.one q is) child (declarator_no_other s p names.0) own in
      (is, ap (λ (o : Option ℕ). name_from o (inner_name (w_at q) s (before q) children)) none ∙ found)

  above_none : (levels o : ℕ) → above_within s (is_outermost s) levels None ≡ Some o → ⊥
  above_none zero o e = cc
  above_none (suc levels) o e = cc

  parent_holds : (p q : ℕ) → parent_of s p ≡ Some q → contains (children_at s q) p ≡ true
  parent_holds p q e = found_where (λ (x : ℕ). contains (children_at s x) p) (all_nodes s) q e

  abbrev outer_by : Option ℕ → Bool
  outer_by parent = elim parent [ None ↦ true | Some x ↦ not (is_declarator s x) ]

  climb : (r levels p o : ℕ) → Names r p → above_within s (is_outermost s) levels (Some p) ≡ Some o → Names r o × (is_outermost s o ≡ true)
  climb r zero p o names e = cc
  climb r (suc levels) p o names e = by (is_outermost s p) refl e (λ q own f. climb r levels q o own f)
    where
      not_false : (a b : Bool) → a ≡ true → (a && not b) ≡ false → b ≡ true
      not_false true true ea h = refl
      not_false true false ea h = cc
      not_false false b ea h = cc

      up : (parent : Option ℕ) → parent_of s p ≡ parent → is_outermost s p ≡ false → above_within s (is_outermost s) levels parent ≡ Some o
          → ((q : ℕ) → Names r q → above_within s (is_outermost s) levels (Some q) ≡ Some o → Names r o × (is_outermost s o ≡ true)) → Names r o × (is_outermost s o ≡ true)
      up None holds inner e later = absurd (above_none levels o e)
      up (Some q) holds inner e later =
          let own : is_declarator s p ≡ true = of_declared (production_at s p) names.0 in
          let told : (is_declarator s p && not (is_declarator s q)) ≡ false = subst (λ (parent : Option ℕ). (is_declarator s p && outer_by parent) ≡ false) holds inner in
          let above : is_declarator s q ≡ true = not_false (is_declarator s p) (is_declarator s q) own told in
          later q (names_up r p q names inner (parent_holds p q holds) (declared_of (production_at s q) above)) e

      by : (b : Bool) → is_outermost s p ≡ b → (if b then Some p else above_within s (is_outermost s) levels (parent_of s p)) ≡ Some o
          → ((q : ℕ) → Names r q → above_within s (is_outermost s) levels (Some q) ≡ Some o → Names r o × (is_outermost s o ≡ true)) → Names r o × (is_outermost s o ≡ true)
      by true outer e later = let same : p ≡ o = cc in subst (λ (x : ℕ). Names r x × (is_outermost s x ≡ true)) same (names, outer)
      by false inner e later = up (parent_of s p) refl inner e later

  reached : (r o : ℕ) → IsNamedPart s r → outermost_of s r ≡ Some o → Names r o × (is_outermost s o ≡ true)
  reached r o named e = by (parent_of s r) refl e
    where
      by : (parent : Option ℕ) → parent_of s r ≡ parent → above_within s (is_outermost s) (length s.nodes) parent ≡ Some o → Names r o × (is_outermost s o ≡ true)
      by None holds e = absurd (above_none (length s.nodes) o e)
      by (Some q) holds e =
          let (i, is, child, name) = named in
          let same : i ≡ q = grown.once i q r child (parent_holds r q holds) in
          climb r (length s.nodes) q o (subst (λ (x : ℕ). Names r x) same (names_own r i is child name)) e

  -- the sense of the outermost declarator of a name
  pub declares : (r o : ℕ) → IsNamedPart s r → outermost_of s r ≡ Some o → (ds : List Derivation) × (sense_in senses o ≡ IsDeclarator (Some r) ds)
  declares r o named e =
      let up = reached r o named e in
      let fits = outer_fits (w_at o) s (before o) o (children_at s o) r (sense_in senses o) up.1 up.0.1 (declared_at o up.0.0) in
      let ds = derivations (w_at o) s (before o) (children_at s o) in
      let t = fits.0 in
      (ds, sym (fits_same (placed_asked (w_at o) s (before o) o r (derived ds t) (adjusted (derived ds t)) (Fits (IsDeclarator (Some r) ds)) (sense_in senses o) fits.1)))

  pub outermost_declares : (r o : ℕ) → IsNamedPart s r → outermost_of s r ≡ Some o → is_outermost s o ≡ true
  outermost_declares r o named e = (reached r o named e).1
