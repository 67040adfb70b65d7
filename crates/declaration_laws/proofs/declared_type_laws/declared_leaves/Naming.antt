-- Declarators and the names that stand in them.
use Rattle.std.proofs.Common.{arith, ◌≡◌, ◌<◌, ◌≤◌, ◌==◌, ◌⊎◌, inl, inr, nat_eq, ℕ, zero, suc, Bool, true, false, ◌&&◌, ◌||◌, not, List, [], ◌∷◌, length, map, Option, Some, None, slice_get, eq-eqb, refl, sym, ap, ◌∙◌, subst}
use Rattle.std.specs.Prelude.{⊤, if◌then◌else◌}
use Rattle.std.proofs.lemmas.Bool.{eqb-true}
use Rattle.c_grammar.specs.declared.trees.SyntaxNode.{SyntaxNode}
use Rattle.c_grammar.specs.Productions.{p_declarator, p_abstract, p_either}
use Rattle.c_grammar.specs.Reads.{leaf as leaf_production}
use Rattle.c_grammar.specs.Terminals.{contains}
use Rattle.c_grammar.specs.Words.{sign_left_bracket}
use Rattle.c_senses.specs.Tree.{Source, production_of, production_at, children_at, kind_of_token, token_of, kind_at, is_a, is_leaf, is_name, is_identifier, has_sign, first_where}
use Rattle.c_senses.specs.Given.{Fits}
use Rattle.c_senses.specs.World.{World}
use Rattle.c_senses.specs.Declarators.{is_declarator, inner_name, name_in, derivations, array_suffix, suffix_row}
use Rattle.c_senses.specs.Sense.{Sense, IsDeclarator, IsDerivation, Derivation, sense_in}
use Rattle.c_senses.specs.Rows.{AreSenses, row_of, declarator_row}
use Rattle.parsed_tree_laws.specs.sense_laws.Sound.{Gives}
use Rattle.parsed_tree_laws.proofs.sense_laws.Giving.{then_gives, if_holds, and_left}
use Rattle.parsed_tree_laws.proofs.sense_laws.Types.{anything}
use Rattle.core_node_laws.proofs.count_laws.passed.parsed_tree_laws.placed_laws.Rows.{declarators}
use Rattle.core_node_laws.proofs.count_laws.passed.parsed_tree_laws.placed_laws.Climbing.{Grown, is_other_in, is_other, AllOther, AtMostOne}
use Rattle.core_node_laws.specs.built_unit_laws.run_laws.PassedOn.{IsBrought, Brings}
use Rattle.core_node_laws.proofs.built_unit_laws.run_laws.PassedOn.{AllIn}
use Rattle.core_node_laws.proofs.built_unit_laws.run_laws.PassedOn.{declarator_parts, declarator_list, abstract_list, either_list}
use Rattle.core_node_laws.proofs.built_unit_laws.run_laws.Times.{known_at, world_of, known, row_as, fitted}
use Rattle.core_node_laws.proofs.built_unit_laws.run_laws.Shapes.{declarator_gives}
use Rattle.core_node_laws.proofs.built_unit_laws.run_laws.Running.{listed_in, first_in}
use Rattle.declaration_laws.specs.declared_type_laws.declared_leaves.Leaves.{IsNamed, Own, Inner}

some_one : {X : Type 0} → {x y : X} → ◌≡◌ {A = Option X} (Some x) (Some y) → x ≡ y
some_one h = cc

found_where : (test : ℕ → Bool) (ks : List ℕ) (x : ℕ) → first_where test ks ≡ Some x → test x ≡ true
found_where test [] x e = cc
found_where test (k ∷ ks) x e = by (test k) refl e (found_where test ks x)
  where
    by : (b : Bool) → test k ≡ b → (if b then Some k else first_where test ks) ≡ Some x → (first_where test ks ≡ Some x → test x ≡ true) → test x ≡ true
    by true is e f = let same : k ≡ x = cc in subst (λ (y : ℕ). test y ≡ true) same is
    by false is e f = f e

in_list : (list : List ℕ) (i : ℕ) → contains list i ≡ true → (k : ℕ) × (slice_get list k ≡ Some i)
in_list [] i h = cc
in_list (x ∷ list) i h = by (in_list list i) (nat_eq x i) refl h
  where
    by : (contains list i ≡ true → (k : ℕ) × (slice_get list k ≡ Some i)) → (b : Bool) → nat_eq x i ≡ b → (b || contains list i) ≡ true → (k : ℕ) × (slice_get (x ∷ list) k ≡ Some i)
    by rest true e h = (0, ap Some (eqb-true x i e))
    by rest false e h = let more = rest h in (suc more.0, more.1)

-- the three forms
three : (s : Source) (i : ℕ) → is_declarator s i ≡ true → (is_a s p_declarator i ≡ true) ⊎ ((is_a s p_abstract i ≡ true) ⊎ (is_a s p_either i ≡ true))
three s i h = by (is_a s p_declarator i) (is_a s p_abstract i) (is_a s p_either i) refl refl refl h
  where
    by : (a b c : Bool) → is_a s p_declarator i ≡ a → is_a s p_abstract i ≡ b → is_a s p_either i ≡ c → ((a || b) || c) ≡ true → (is_a s p_declarator i ≡ true) ⊎ ((is_a s p_abstract i ≡ true) ⊎ (is_a s p_either i ≡ true))
    by true b c e f g k = inl e
    by false true c e f g k = inr (inl f)
    by false false true e f g k = inr (inr g)
    by false false false e f g k = cc

-- no declarator's sense
abbrev NoDeclarator : Sense → Type 0
NoDeclarator (IsDeclarator name ds) = ⊥
NoDeclarator x = ⊤

module _ (w : World) (s : Source) (f : ℕ → Sense) where
  suffix_gives : (at : ℕ) (children : List ℕ) → Gives NoDeclarator (suffix_row w s f at children)
  suffix_gives at [] = tt
  suffix_gives at (first ∷ rest) =
      if_holds (Gives NoDeclarator) (has_sign s sign_left_bracket first) _ _ (λ e. then_gives (λ d. ⊤) NoDeclarator (array_suffix w s f at rest) (λ d. Fits (IsDerivation d)) (anything (array_suffix w s f at rest)) (λ d k. tt)) (λ e. tt)

  -- the first declarator's sense in a list
  inner_found : (list : List ℕ) (leaf : ℕ) → inner_name w s f list ≡ Some leaf → (c : ℕ) × (ds : List Derivation) × (contains list c ≡ true) × (f c ≡ IsDeclarator (Some leaf) ds)
  inner_found [] leaf e = cc
  inner_found (c ∷ list) leaf e = by (f c) refl e (inner_found list leaf)
    where
      with_it : (d : ℕ) (b : Bool) → contains list d ≡ true → (b || contains list d) ≡ true
      with_it d true h = refl
      with_it d false h = h

      by : (y : Sense) → f c ≡ y → (elim y as (λ _. Option ℕ) [ IsDeclarator name ds ↦ name | _ ↦ inner_name w s f list ]) ≡ Some leaf
          → (inner_name w s f list ≡ Some leaf → (d : ℕ) × (ds : List Derivation) × (contains list d ≡ true) × (f d ≡ IsDeclarator (Some leaf) ds))
          → (d : ℕ) × (ds : List Derivation) × (contains (c ∷ list) d ≡ true) × (f d ≡ IsDeclarator (Some leaf) ds)
      by (IsDeclarator name ds) is h later = (c, ds, ap (λ (b : Bool). b || contains list c) (eq-eqb c c refl), is ∙ ap (λ (o : Option ℕ). IsDeclarator o ds) h)
      by y is h later = let found = later h in (found.0, found.1, with_it found.0 (nat_eq c found.0) found.2, found.3)

  inner_is : (list : List ℕ) (c leaf : ℕ) (ds : List Derivation) → contains list c ≡ true → f c ≡ IsDeclarator (Some leaf) ds → ((y : ℕ) → contains list y ≡ true → (y ≡ c) ⊎ NoDeclarator (f y)) → inner_name w s f list ≡ Some leaf
  inner_is [] c leaf ds h is others = cc
  inner_is (y ∷ list) c leaf ds h is others = by (nat_eq y c) refl h (λ k. inner_is list c leaf ds k is (λ z m. others z (later (nat_eq y z) z m)))
    where
      later : (b : Bool) (z : ℕ) → contains list z ≡ true → (b || contains list z) ≡ true
      later true z m = refl
      later false z m = m

      own : inner_name w s f list ≡ Some leaf → (x : Sense) → f y ≡ x → NoDeclarator x → (elim x as (λ _. Option ℕ) [ IsDeclarator name es ↦ name | _ ↦ inner_name w s f list ]) ≡ Some leaf
      own rest (IsDeclarator name es) e none = absurd none
      own rest x e none = rest

      here : y ≡ c → (elim (f y) as (λ _. Option ℕ) [ IsDeclarator name es ↦ name | _ ↦ inner_name w s f list ]) ≡ Some leaf
      here same = ap (λ (x : Sense). elim x as (λ _. Option ℕ) [ IsDeclarator name es ↦ name | _ ↦ inner_name w s f list ]) (ap f same ∙ is)

      by : (b : Bool) → nat_eq y c ≡ b → (b || contains list c) ≡ true → (contains list c ≡ true → inner_name w s f list ≡ Some leaf)
          → (elim (f y) as (λ _. Option ℕ) [ IsDeclarator name es ↦ name | _ ↦ inner_name w s f list ]) ≡ Some leaf
      by true same k more = here (eqb-true y c same)
      by false other k more = elim (others y (ap (λ (b : Bool). b || contains list y) (eq-eqb y y refl))) [ inl same ↦ here same | inr none ↦ own (more k) (f y) refl none ]

module _ (s : Source) (senses : List Sense) (are : AreSenses s senses) (grown : Grown s) (brought : IsBrought s) where
  parts : (m : ℕ) → is_declarator s m ≡ true → AllIn declarator_parts (map (production_at s) (children_at s m))
  parts m h = elim (three s m h) [
    | inl is ↦ declarator_list (map (production_at s) (children_at s m)) (own 19 is)
    | inr more ↦ elim more [ inl is ↦ abstract_list (map (production_at s) (children_at s m)) (own 20 is) | inr is ↦ either_list (map (production_at s) (children_at s m)) (own 21 is) ]
  ]
    where
      own : (q : ℕ) → is_a s q m ≡ true → Brings q 0 (map (production_at s) (children_at s m))
      own q is = subst (λ (x : ℕ). Brings x 0 (map (production_at s) (children_at s m))) (eqb-true (production_at s m) q is) (brought m)

  -- a part of a declarator is a declarator, or has no declarator's sense
  part_is : (m c : ℕ) → c < length senses → is_declarator s m ≡ true → contains (children_at s m) c ≡ true → (is_declarator s c ≡ true) ⊎ NoDeclarator (sense_in senses c)
  part_is m c lt h k =
      let found = in_list declarator_parts (production_at s c) (listed_in (production_at s) declarator_parts (children_at s m) c (parts m h) k) in
      by_place found.0 found.1
    where
      named_as : (q : ℕ) → production_at s c ≡ q → ((q == p_declarator || q == p_abstract) || q == p_either) ≡ true → is_declarator s c ≡ true
      named_as q e g = subst (λ (x : ℕ). ((x == p_declarator || x == p_abstract) || x == p_either) ≡ true) (sym e) g

      plain : (q : ℕ) → production_at s c ≡ q → Gives NoDeclarator (row_of (world_of s senses c) s (known_at s senses c) q c (children_at s c)) → NoDeclarator (sense_in senses c)
      plain q e g = fitted NoDeclarator (row_of (world_of s senses c) s (known_at s senses c) q c (children_at s c)) (sense_in senses c) (row_as s senses are q c lt (eq-eqb (production_at s c) q e)) g

      by_place : (j : ℕ) → slice_get declarator_parts j ≡ Some (production_at s c) → (is_declarator s c ≡ true) ⊎ NoDeclarator (sense_in senses c)
      by_place zero e = inr (plain leaf_production (sym (some_one e)) tt)
      by_place (suc zero) e = inr (plain 9 (sym (some_one e)) tt)
      by_place (suc (suc zero)) e = inl (named_as 19 (sym (some_one e)) refl)
      by_place (suc (suc (suc zero))) e = inl (named_as 20 (sym (some_one e)) refl)
      by_place (suc (suc (suc (suc zero)))) e = inl (named_as 21 (sym (some_one e)) refl)
      by_place (suc (suc (suc (suc (suc zero))))) e = inr (plain 22 (sym (some_one e)) (suffix_gives (world_of s senses c) s (known_at s senses c) c (children_at s c)))
      by_place (suc (suc (suc (suc (suc (suc j)))))) e = cc

  -- the sense of a declarator
  abbrev W : ℕ → World
  W m = world_of s senses m

  abbrev F : ℕ → ℕ → Sense
  F m = known_at s senses m

  pub row_is : (m : ℕ) → m < length senses → is_declarator s m ≡ true → declarator_row (W m) s (F m) m (children_at s m) ≡ Fits (sense_in senses m)
  row_is m lt h = elim (three s m h) [
    | inl is ↦ row_as s senses are 19 m lt is
    | inr more ↦ elim more [ inl is ↦ row_as s senses are 20 m lt is | inr is ↦ row_as s senses are 21 m lt is ]
  ]

  sense_is : (m : ℕ) → m < length senses → is_declarator s m ≡ true → sense_in senses m ≡ IsDeclarator (name_in (W m) s (F m) (children_at s m)) (derivations (W m) s (F m) (children_at s m))
  sense_is m lt h =
      let P : Sense → Type 0 = λ x. x ≡ IsDeclarator (name_in (W m) s (F m) (children_at s m)) (derivations (W m) s (F m) (children_at s m)) in
      fitted P (declarator_row (W m) s (F m) m (children_at s m)) (sense_in senses m) (row_is m lt h) (declarator_gives P (W m) s (F m) m (children_at s m) refl)

  -- 6.7.6: what has a name by its sense has it in the tree
  abbrev NamedUpTo : ℕ → Type 0
  NamedUpTo n = (m leaf : ℕ) (ds : List Derivation) → m < n → m < length senses → is_declarator s m ≡ true → sense_in senses m ≡ IsDeclarator (Some leaf) ds → IsNamed s m leaf

  name_of : (x y : Option ℕ) (ds es : List Derivation) → IsDeclarator x ds ≡ IsDeclarator y es → x ≡ y
  name_of x y ds es h = cc

  named_here : (n : ℕ) → NamedUpTo n → (m leaf : ℕ) (ds : List Derivation) → m ≤ n → m < length senses → is_declarator s m ≡ true → sense_in senses m ≡ IsDeclarator (Some leaf) ds → IsNamed s m leaf
  named_here n below m leaf ds le lt h is = by (first_where (is_name s) (children_at s m)) refl (name_of _ _ _ _ (sym (sense_is m lt h) ∙ is))
    where
      by : (o : Option ℕ) → first_where (is_name s) (children_at s m) ≡ o → (elim o as (λ _. Option ℕ) [ None ↦ inner_name (W m) s (F m) (children_at s m) | Some l ↦ Some l ]) ≡ Some leaf → IsNamed s m leaf
      by (Some l) found e =
          let at : first_where (is_name s) (children_at s m) ≡ Some leaf = found ∙ e in Own (first_in (is_name s) (children_at s m) leaf at) (found_where (is_name s) (children_at s m) leaf at)
      by None found e =
          let inner = inner_found (W m) s (F m) (children_at s m) leaf e in
          let c : ℕ = inner.0 in
          let before : c < m = grown.before m c inner.2 in
          let at : sense_in senses c ≡ IsDeclarator (Some leaf) inner.1 = sym (known s senses m c before) ∙ inner.3 in
          let short : c < length senses = omega (arith, before, lt) in
          elim (part_is m c short h inner.2) [
            | inl declarator ↦ Inner c inner.2 declarator (below c leaf inner.1 (omega (arith, before, le)) short declarator at)
            | inr none ↦ absurd (subst NoDeclarator at none)
          ]

  named_up : (n : ℕ) → NamedUpTo n
  named_up zero m leaf ds lt short h is = absurd (omega (arith, lt))
  named_up (suc n) m leaf ds lt short h is = named_here n (named_up n) m leaf ds (omega (arith, lt)) short h is

  pub sense_named : (m leaf : ℕ) (ds : List Derivation) → m < length senses → is_declarator s m ≡ true → sense_in senses m ≡ IsDeclarator (Some leaf) ds → IsNamed s m leaf
  sense_named m leaf ds lt h is = named_up (suc m) m leaf ds (omega arith) lt h is

  -- and the other way round: one part at most is a name or a declarator
  all_other : (ks : List ℕ) (a : ℕ) → AllOther s ks → contains ks a ≡ true → is_other s a ≡ true
  all_other [] a h k = cc
  all_other (x ∷ ks) a h k = by (nat_eq x a) refl k (λ m. all_other ks a h.1 m)
    where
      by : (b : Bool) → nat_eq x a ≡ b → (b || contains ks a) ≡ true → (contains ks a ≡ true → is_other s a ≡ true) → is_other s a ≡ true
      by true e m later = subst (λ (y : ℕ). is_other s y ≡ true) (eqb-true x a e) h.0
      by false e m later = later m

  one_other : (ks : List ℕ) (a b : ℕ) → AtMostOne s ks → contains ks a ≡ true → contains ks b ≡ true → is_other s a ≡ false → is_other s b ≡ false → a ≡ b
  one_other [] a b h k l na nb = cc
  one_other (x ∷ ks) a b (inl rest) k l na nb = sym (here a k na) ∙ here b l nb
    where
      here : (c : ℕ) → (nat_eq x c || contains ks c) ≡ true → is_other s c ≡ false → x ≡ c
      here c m nc = by (nat_eq x c) refl m
        where
          by : (d : Bool) → nat_eq x c ≡ d → (d || contains ks c) ≡ true → x ≡ c
          by true e n = eqb-true x c e
          by false e n = absurd (let is : is_other s c ≡ true = all_other ks c rest n in let f : true ≡ false = sym is ∙ nc in cc)
  one_other (x ∷ ks) a b (inr first) k l na nb = one_other ks a b first.1 (behind a k na) (behind b l nb) na nb
    where
      behind : (c : ℕ) → (nat_eq x c || contains ks c) ≡ true → is_other s c ≡ false → contains ks c ≡ true
      behind c m nc = by (nat_eq x c) refl m
        where
          by : (d : Bool) → nat_eq x c ≡ d → (d || contains ks c) ≡ true → contains ks c ≡ true
          by true e n = absurd (let is : is_other s c ≡ true = subst (λ (y : ℕ). is_other s y ≡ true) (eqb-true x c e) first.0 in let f : true ≡ false = sym is ∙ nc in cc)
          by false e n = n

  declaring_of : (m : ℕ) → is_declarator s m ≡ true → contains declarators (production_at s m) ≡ true
  declaring_of m h = elim (three s m h) [
    | inl is ↦ as_one 19 is refl
    | inr more ↦ elim more [ inl is ↦ as_one 20 is refl | inr is ↦ as_one 21 is refl ]
  ]
    where
      as_one : (q : ℕ) → is_a s q m ≡ true → contains declarators q ≡ true → contains declarators (production_at s m) ≡ true
      as_one q is g = subst (λ (x : ℕ). contains declarators x ≡ true) (sym (eqb-true (production_at s m) q is)) g

  name_other : (c : ℕ) → is_name s c ≡ true → is_other s c ≡ false
  name_other c h = by (slice_get s.nodes c) h
    where
      tests : (p : ℕ) (b : Bool) → ((p == leaf_production) && b) ≡ true → (contains (9 ∷ 22 ∷ []) p || (contains (leaf_production ∷ []) p && not b)) ≡ false
      tests p true g = subst (λ (x : ℕ). (contains (9 ∷ 22 ∷ []) x || (contains (leaf_production ∷ []) x && false)) ≡ false) (sym (eqb-true p leaf_production (and_left (p == leaf_production) true g))) refl
      tests p false g = absurd (none (p == leaf_production) g)
        where
          none : (a : Bool) → (a && false) ≡ true → ⊥
          none true k = cc
          none false k = cc

      by : (o : Option SyntaxNode) → ((production_of o == leaf_production) && is_identifier (kind_of_token (token_of s o))) ≡ true → is_other_in s o ≡ false
      by o g = tests (production_of o) (is_identifier (kind_of_token (token_of s o))) g

  declarator_other : (c : ℕ) → is_declarator s c ≡ true → is_other s c ≡ false
  declarator_other c h = elim (three s c h) [
    | inl is ↦ tests 19 is (λ b. refl)
    | inr more ↦ elim more [ inl is ↦ tests 20 is (λ b. refl) | inr is ↦ tests 21 is (λ b. refl) ]
  ]
    where
      tests : (q : ℕ) → is_a s q c ≡ true → ((b : Bool) → (contains (9 ∷ 22 ∷ []) q || (contains (leaf_production ∷ []) q && b)) ≡ false) → is_other s c ≡ false
      tests q is g =
          subst (λ (x : ℕ). (contains (9 ∷ 22 ∷ []) x || (contains (leaf_production ∷ []) x && not (is_identifier (kind_at s c)))) ≡ false) (sym (eqb-true (production_at s c) q is)) (g (not (is_identifier (kind_at s c))))

  no_leaf : (c : ℕ) → is_declarator s c ≡ true → is_name s c ≡ true → ⊥
  no_leaf c h k = elim (three s c h) [
    | inl is ↦ apart 19 is (λ e. cc)
    | inr more ↦ elim more [ inl is ↦ apart 20 is (λ e. cc) | inr is ↦ apart 21 is (λ e. cc) ]
  ]
    where
      apart : (q : ℕ) → is_a s q c ≡ true → ((q == leaf_production) ≡ true → ⊥) → ⊥
      apart q is never = never (subst (λ (x : ℕ). (x == leaf_production) ≡ true) (eqb-true (production_at s c) q is) (and_left (is_leaf s c) (is_identifier (kind_at s c)) k))

  finds : (test : ℕ → Bool) (ks : List ℕ) (x : ℕ) → contains ks x ≡ true → test x ≡ true → first_where test ks ≡ None → ⊥
  finds test [] x h k e = cc
  finds test (y ∷ ks) x h k e = by (nat_eq y x) refl h (test y) refl e (λ m f. finds test ks x m k f)
    where
      by : (b : Bool) → nat_eq y x ≡ b → (b || contains ks x) ≡ true → (d : Bool) → test y ≡ d → (if d then Some y else first_where test ks) ≡ None → (contains ks x ≡ true → first_where test ks ≡ None → ⊥) → ⊥
      by true same m true t f later = cc
      by true same m false t f later = let g : true ≡ false = sym k ∙ (ap test (sym (eqb-true y x same)) ∙ t) in cc
      by false same m true t f later = cc
      by false same m false t f later = later m f

  one_name : (m leaf : ℕ) → is_declarator s m ≡ true → contains (children_at s m) leaf ≡ true → is_name s leaf ≡ true → first_where (is_name s) (children_at s m) ≡ Some leaf
  one_name m leaf h k named = by (first_where (is_name s) (children_at s m)) refl
    where
      by : (o : Option ℕ) → first_where (is_name s) (children_at s m) ≡ o → first_where (is_name s) (children_at s m) ≡ Some leaf
      by None found = absurd (finds (is_name s) (children_at s m) leaf k named found)
      by (Some y) found =
          let same : y ≡ leaf =
          one_other (children_at s m) y leaf (grown.one m (declaring_of m h)) (first_in (is_name s) (children_at s m) y found) k (name_other y (found_where (is_name s) (children_at s m) y found)) (name_other leaf named) in
          found ∙ ap Some same

  no_name : (m c : ℕ) → is_declarator s m ≡ true → contains (children_at s m) c ≡ true → is_declarator s c ≡ true → first_where (is_name s) (children_at s m) ≡ None
  no_name m c h k inner = by (first_where (is_name s) (children_at s m)) refl
    where
      by : (o : Option ℕ) → first_where (is_name s) (children_at s m) ≡ o → first_where (is_name s) (children_at s m) ≡ None
      by None found = found
      by (Some y) found =
          let named : is_name s y ≡ true = found_where (is_name s) (children_at s m) y found in
          let same : y ≡ c = one_other (children_at s m) y c (grown.one m (declaring_of m h)) (first_in (is_name s) (children_at s m) y found) k (name_other y named) (declarator_other c inner) in
          absurd (no_leaf c inner (subst (λ (x : ℕ). is_name s x ≡ true) same named))

  abbrev name_at : ℕ → Option ℕ
  name_at m = name_in (W m) s (F m) (children_at s m)

  pub named_sense : (m leaf : ℕ) → IsNamed s m leaf → m < length senses → is_declarator s m ≡ true → sense_in senses m ≡ IsDeclarator (Some leaf) (derivations (W m) s (F m) (children_at s m))
  named_sense m leaf (Own k named) lt h =
      sense_is m lt h
      ∙ ap (λ (o : Option ℕ). IsDeclarator o (derivations (W m) s (F m) (children_at s m)))
      (ap (λ (o : Option ℕ). elim o as (λ _. Option ℕ) [ None ↦ inner_name (W m) s (F m) (children_at s m) | Some l ↦ Some l ]) (one_name m leaf h k named))
  named_sense m leaf (Inner c k inner more) lt h =
      let before : c < m = grown.before m c k in
      let short : c < length senses = omega (arith, before, lt) in
      let at : F m c ≡ IsDeclarator (Some leaf) (derivations (W c) s (F c) (children_at s c)) = known s senses m c before ∙ named_sense c leaf more short inner in
      let name : inner_name (W m) s (F m) (children_at s m) ≡ Some leaf = inner_is (W m) s (F m) (children_at s m) c leaf (derivations (W c) s (F c) (children_at s c)) k at
      (λ y l.
      let y_before : y < m = grown.before m y l in
      elim (part_is m y (omega (arith, y_before, lt)) h l) [
        | inl declarator ↦ inl (one_other (children_at s m) y c (grown.one m (declaring_of m h)) l k (declarator_other y declarator) (declarator_other c inner))
        | inr none ↦ inr (subst NoDeclarator (sym (known s senses m y y_before)) none)
      ]) in
      sense_is m lt h
      ∙ ap (λ (o : Option ℕ). IsDeclarator o (derivations (W m) s (F m) (children_at s m)))
      (ap (λ (o : Option ℕ). elim o as (λ _. Option ℕ) [ None ↦ inner_name (W m) s (F m) (children_at s m) | Some l ↦ Some l ]) (no_name m c h k inner) ∙ name)
