-- No two initialisers are of one declarator.
use Rattle.std.proofs.Common.{arith, ◌≡◌, ◌<◌, ◌≤◌, ℕ, suc, nat_eq, nat_lt, not, Bool, true, false, ◌&&◌, ◌||◌, List, [], ◌∷◌, map, Option, Some, None, eq-eqb, lt-ltb, refl, sym, ap, ◌∙◌, subst, ◌⊎◌, inl, inr}
use Rattle.std.specs.Prelude.{option_and_then, if◌then◌else◌}
use Rattle.std.proofs.lemmas.Bool.{eqb-true, eqb-false, ltb-true}
use Rattle.c_grammar.specs.Productions.{p_external, p_declaration, p_declarator, p_abstract, p_either, p_init}
use Rattle.c_grammar.specs.Terminals.{contains}
use Rattle.c_senses.specs.Names.{source_of, numbered}
use Rattle.c_senses.specs.Tree.{Source, is_a, production_at, children_at, first_where, last_where, last_or, child_of, parent_of}
use Rattle.c_senses.specs.Declarators.{is_declarator, is_outermost}
use Rattle.c_senses.specs.Entities.{initialised_by}
use Rattle.c_senses.specs.Sense.{Sense}
use Rattle.core_node_laws.specs.count_laws.passed.parsed_tree_laws.family_laws.Families.{Families, Ascend}
use Rattle.core_node_laws.proofs.count_laws.passed.parsed_tree_laws.family_laws.Reading.{units_families}
use Rattle.declaration_laws.proofs.definition_laws.linkage_laws.Seen.{some_same, none_some, no_both, parent_is, parent_holds}
use Rattle.declaration_laws.proofs.definition_laws.linkage_laws.Linked.{Tree}
use Rattle.declaration_laws.proofs.definition_laws.linkage_laws.Reading.{tree_is}
use Rattle.core_node_laws.specs.count_laws.passed.parsed_tree_laws.sign_parts.Parts.{mark_at, IsBrought}
use Rattle.core_node_laws.proofs.count_laws.passed.parsed_tree_laws.sign_parts.Reading.{units_bring}
use Rattle.declaration_laws.specs.definition_laws.single_initialisers.Single.{InitialisersApart}
use Rattle.declaration_laws.proofs.definition_laws.single_initialisers.Parts.{member, item_many, apart, differ, First, names, sets, neither, first_of, marked, Holds, in_rest, in_other, holder, inner_holder, item_in, no_declarator_in, one_rest, one_init, separated}

-- ---- lists of numbers

ascend_in : (low : ℕ) (ks : List ℕ) (x : ℕ) → Ascend low ks → contains ks x ≡ true → low ≤ x
ascend_in low [] x a h = cc
ascend_in low (k ∷ ks) x a h = by (member k x ks h) (λ f. ascend_in (suc k) ks x a.1 f)
  where
    by : (k ≡ x) ⊎ (contains ks x ≡ true) → (contains ks x ≡ true → suc k ≤ x) → low ≤ x
    by (inl same) later = let le = a.0 in omega (arith, same, le)
    by (inr f) later = let more = later f in let le = a.0 in omega (arith, more, le)

head_in : (k : ℕ) (ks : List ℕ) → contains (k ∷ ks) k ≡ true
head_in k ks = ap (λ (b : Bool). b || contains ks k) (eq-eqb k k refl)

next_in : (k x : ℕ) (ks : List ℕ) → contains ks x ≡ true → contains (k ∷ ks) x ≡ true
next_in k x ks h = by (nat_eq k x)
  where
    by : (b : Bool) → (b || contains ks x) ≡ true
    by true = refl
    by false = h

and_both : (a b : Bool) → (a && b) ≡ true → (a ≡ true) × (b ≡ true)
and_both true true e = (refl, refl)
and_both true false e = cc
and_both false b e = cc

-- the last that passes is in the list and passes
last_in : (test : ℕ → Bool) (ks : List ℕ) (x : ℕ) → last_where test ks ≡ Some x → (contains ks x ≡ true) × (test x ≡ true)
last_in test [] x e = absurd (none_some e)
last_in test (k ∷ ks) x e = by (last_where test ks) refl e (λ y f. last_in test ks y f)
  where
    own : (b : Bool) → test k ≡ b → (if b then Some k else None) ≡ Some x → (contains (k ∷ ks) x ≡ true) × (test x ≡ true)
    own true t f = let same : k ≡ x = some_same f in (subst (λ (y : ℕ). contains (k ∷ ks) y ≡ true) same (head_in k ks), ap test (sym same) ∙ t)
    own false t f = absurd (none_some f)

    by : (o : Option ℕ) → last_where test ks ≡ o → last_or o (if test k then Some k else None) ≡ Some x → ((y : ℕ) → last_where test ks ≡ Some y → (contains ks y ≡ true) × (test y ≡ true)) → (contains (k ∷ ks) x ≡ true) × (test x ≡ true)
    by None at f later = own (test k) refl f
    by (Some y) at f later =
        let same : y ≡ x = some_same f in
        let more = later y at in
        (subst (λ (z : ℕ). contains (k ∷ ks) z ≡ true) same (next_in k y ks more.0), ap test (sym same) ∙ more.1)

-- and no later one passes
abbrev Later : ℕ → Option ℕ → Type 0
Later c o = (x : ℕ) × (o ≡ Some x) × (c ≤ x)

last_after : (low : ℕ) (test : ℕ → Bool) (ks : List ℕ) (c : ℕ) → Ascend low ks → contains ks c ≡ true → test c ≡ true → (x : ℕ) × (last_where test ks ≡ Some x) × (c ≤ x)
last_after low test [] c a h t = cc
last_after low test (k ∷ ks) c a h t = by (member k c ks h) (λ f. last_after (suc k) test ks c a.1 f t)
  where
    own : (o : Option ℕ) → last_where test ks ≡ o → k ≡ c → Later c (last_or o (if test k then Some k else None))
    own None at same = (c, ap (λ (b : Bool). if b then Some k else None) (ap test same ∙ t) ∙ ap (λ (y : ℕ). Some y) same, omega arith)
    own (Some y) at same = let le = ascend_in (suc k) ks y a.1 (last_in test ks y at).0 in (y, refl, omega (arith, le, same))

    by : (k ≡ c) ⊎ (contains ks c ≡ true) → (contains ks c ≡ true → Later c (last_where test ks)) → Later c (last_or (last_where test ks) (if test k then Some k else None))
    by (inl same) later = own (last_where test ks) refl same
    by (inr f) later = let h = later f in let (x, found, le) = h in (x, ap (λ (o : Option ℕ). last_or o (if test k then Some k else None)) found, le)

first_in : (test : ℕ → Bool) (ks : List ℕ) (x : ℕ) → first_where test ks ≡ Some x → (contains ks x ≡ true) × (test x ≡ true)
first_in test [] x e = absurd (none_some e)
first_in test (k ∷ ks) x e = by (test k) refl e (λ f. first_in test ks x f)
  where
    by : (b : Bool) → test k ≡ b → (if b then Some k else first_where test ks) ≡ Some x → (first_where test ks ≡ Some x → (contains ks x ≡ true) × (test x ≡ true)) → (contains (k ∷ ks) x ≡ true) × (test x ≡ true)
    by true t f later = let same : k ≡ x = some_same f in (subst (λ (y : ℕ). contains (k ∷ ks) y ≡ true) same (head_in k ks), ap test (sym same) ∙ t)
    by false t f later = let h = later f in (next_in k x ks h.0, h.1)

module _ (s : Source) (tree : Tree s) (families : Families s) (brought : IsBrought s) where
  abbrev number : (p i : ℕ) → is_a s p i ≡ true → production_at s i ≡ p
  number p i h = eqb-true (production_at s i) p h

  abbrev Between : List ℕ → ℕ → ℕ → Type 0
  Between ks i j = (c : ℕ) × (contains ks c ≡ true) × (is_a s p_declarator c ≡ true) × (i < c) × (c < j)

  widen : (k i j : ℕ) (ks : List ℕ) → Between ks i j → Between (k ∷ ks) i j
  widen k i j ks b = let (c, at, is, low, high) = b in (c, next_in k c ks at, is, low, high)

  of_head : (k x q : ℕ) → k ≡ x → production_at s x ≡ q → (mark_at s k).production ≡ q
  of_head k x q same is = marked s brought k ∙ (ap (production_at s) same ∙ is)

  is_declarator_at : (k : ℕ) → (mark_at s k).production ≡ 19 → is_a s p_declarator k ≡ true
  is_declarator_at k e = eq-eqb (production_at s k) 19 (sym (marked s brought k) ∙ e)

  -- behind an initialiser, before another one
  behind_one : (low i j : ℕ) (ks : List ℕ) → Ascend low ks → i < low → apart true (map (mark_at s) ks) ≡ true → contains ks j ≡ true → production_at s j ≡ 25 → Between ks i j
  behind_one low i j [] a lt ok h is = cc
  behind_one low i j (k ∷ ks) a lt ok h is =
      by (member k j ks h) (first_of true (mark_at s k) (map (mark_at s) ks) ok) (λ g f. widen k i j ks (behind_one (suc k) i j ks a.1 (let le = a.0 in omega (arith, le, lt)) g f is))
    where
      by : (k ≡ j) ⊎ (contains ks j ≡ true) → First true (mark_at s k) (map (mark_at s) ks) → (apart true (map (mark_at s) ks) ≡ true → contains ks j ≡ true → Between (k ∷ ks) i j) → Between (k ∷ ks) i j
      by (inl same) (names e g) later = absurd (differ (mark_at s k).production e (of_head k j 25 same is))
      by (inr more) (names e g) later =
          let le = a.0 in
          let after = ascend_in (suc k) ks j a.1 more in
          (k, head_in k ks, is_declarator_at k e, omega (arith, le, lt), omega (arith, after))
      by m (sets e f g) later = cc
      by (inl same) (neither e f g) later = absurd (f (of_head k j 25 same is))
      by (inr more) (neither e f g) later = later g more

  between : (b : Bool) (low i j : ℕ) (ks : List ℕ) → Ascend low ks → apart b (map (mark_at s) ks) ≡ true → contains ks i ≡ true → contains ks j ≡ true → production_at s i ≡ 25 → production_at s j ≡ 25 → i < j → Between ks i j
  between b low i j [] a ok h g e f lt = cc
  between b low i j (k ∷ ks) a ok h g e f lt = first (member k i ks h) (member k j ks g) (first_of b (mark_at s k) (map (mark_at s) ks) ok) (λ x o u v. widen k i j ks (between x (suc k) i j ks a.1 o u v e f lt))
    where
      first : (k ≡ i) ⊎ (contains ks i ≡ true) → (k ≡ j) ⊎ (contains ks j ≡ true) → First b (mark_at s k) (map (mark_at s) ks)
          → ((x : Bool) → apart x (map (mark_at s) ks) ≡ true → contains ks i ≡ true → contains ks j ≡ true → Between (k ∷ ks) i j) → Between (k ∷ ks) i j
      first (inl x) (inl y) o more = absurd (omega (arith, lt, x, y))
      first (inl x) (inr y) (names m n) more = absurd (differ (mark_at s k).production m (of_head k i 25 x e))
      first (inl x) (inr y) (sets m n o) more = widen k i j ks (behind_one (suc k) i j ks a.1 (omega (arith, x)) o y f)
      first (inl x) (inr y) (neither m n o) more = absurd (n (of_head k i 25 x e))
      first (inr x) (inl y) o more = absurd (let le = ascend_in (suc k) ks i a.1 x in omega (arith, le, y, lt))
      first (inr x) (inr y) (names m n) more = more false n x y
      first (inr x) (inr y) (sets m n o) more = more true o x y
      first (inr x) (inr y) (neither m n o) more = more b o x y

  abbrev test : ℕ → ℕ → Bool
  test init c = is_a s p_declarator c && nat_lt c init

  -- where the declarator of an initialiser stands: beside it, before it, or beside what it stands in
  data Place (i d : ℕ) : Type 0 where
    beside : (p : ℕ) → contains (children_at s p) i ≡ true → last_where (test i) (children_at s p) ≡ Some d → Place i d
    above : (p r : ℕ) → contains (children_at s p) i ≡ true → contains (children_at s r) p ≡ true → last_where (test i) (children_at s p) ≡ None → contains (children_at s r) d ≡ true → is_a s p_declarator d ≡ true → Place i d

  place_of : (sense : ℕ → Sense) (i d : ℕ) → initialised_by s sense i ≡ Some d → Place i d
  place_of sense i d e = by (parent_of s i) refl e
    where
      higher : (p : ℕ) → parent_of s i ≡ Some p → last_where (test i) (children_at s p) ≡ None → (o : Option ℕ) → parent_of s p ≡ o → option_and_then (child_of s p_declarator) o ≡ Some d → Place i d
      higher p up none None at f = absurd (none_some f)
      higher p up none (Some r) at f = let h = first_in (is_a s p_declarator) (children_at s r) d f in above p r (parent_holds s tree.grown p i up) (parent_holds s tree.grown r p at) none h.0 h.1

      pick : (p : ℕ) → parent_of s i ≡ Some p → (o : Option ℕ) → last_where (test i) (children_at s p) ≡ o → (elim o as (λ _. Option ℕ) [ Some x ↦ Some x | None ↦ option_and_then (child_of s p_declarator) (parent_of s p) ]) ≡ Some d → Place i d
      pick p up None at f = higher p up at (parent_of s p) refl f
      pick p up (Some x) at f = beside p (parent_holds s tree.grown p i up) (at ∙ f)

      by : (o : Option ℕ) → parent_of s i ≡ o
          → (elim o as (λ _. Option ℕ) [ None ↦ None | Some p ↦ elim (last_where (test i) (children_at s p)) as (λ _. Option ℕ) [ Some x ↦ Some x | None ↦ option_and_then (child_of s p_declarator) (parent_of s p) ] ]) ≡ Some d → Place i d
      by None up f = absurd (none_some f)
      by (Some p) up f = pick p up (last_where (test i) (children_at s p)) refl f

  either : (p : ℕ) → (is_a s p_external p || is_a s p_declaration p) ≡ true → (production_at s p ≡ 1) ⊎ (production_at s p ≡ 3)
  either p h = by (is_a s p_external p) refl (is_a s p_declaration p) refl h
    where
      by : (a : Bool) → is_a s p_external p ≡ a → (b : Bool) → is_a s p_declaration p ≡ b → (a || b) ≡ true → (production_at s p ≡ 1) ⊎ (production_at s p ≡ 3)
      by true e b f h = inl (number p_external p e)
      by false e true f h = inr (number p_declaration p f)
      by false e false f h = cc

  -- what holds an initialiser stands in no such node
  no_holder : (p q j : ℕ) → Holds s brought p → contains (children_at s p) q ≡ true → contains (children_at s q) j ≡ true → production_at s j ≡ 25 → ⊥
  no_holder p q j holds up child is = by (inner_holder s brought p q j up child is)
    where
      in_list : (list : List ℕ) (n : ℕ) → production_at s p ≡ n → contains list (production_at s p) ≡ true → contains list n ≡ false → ⊥
      in_list list n e h out = let both : true ≡ false = sym h ∙ (ap (contains list) e ∙ out) in cc

      no_one : (n : ℕ) → production_at s p ≡ n → Holds s brought p → nat_eq 2 n ≡ false → contains (27 ∷ 54 ∷ 55 ∷ []) n ≡ false → ⊥
      no_one n e (in_rest r) out other = let h : nat_eq 2 n ≡ true = eq-eqb 2 n (sym r ∙ e) in no_both (nat_eq 2 n) h out
      no_one n e (in_other r) out other = in_list (27 ∷ 54 ∷ 55 ∷ []) n e r other

      two : (production_at s p ≡ 1) ⊎ (production_at s p ≡ 3) → ⊥
      two (inl e) = no_one 1 e holds refl refl
      two (inr e) = no_one 3 e holds refl refl

      of_item : (x : Holds s brought p) → contains item_many (production_at s p) ≡ true → ⊥
      of_item (in_rest r) h = in_list item_many 2 r h refl
      of_item (in_other r) h = three (member 27 (production_at s p) (54 ∷ 55 ∷ []) r)
        where
          last : (55 ≡ production_at s p) ⊎ (contains [] (production_at s p) ≡ true) → ⊥
          last (inl e) = in_list item_many 55 (sym e) h refl
          last (inr e) = cc

          next : (54 ≡ production_at s p) ⊎ (contains (55 ∷ []) (production_at s p) ≡ true) → ⊥
          next (inl e) = in_list item_many 54 (sym e) h refl
          next (inr e) = last (member 55 (production_at s p) [] e)

          three : (27 ≡ production_at s p) ⊎ (contains (54 ∷ 55 ∷ []) (production_at s p) ≡ true) → ⊥
          three (inl e) = in_list item_many 27 (sym e) h refl
          three (inr e) = next (member 54 (production_at s p) (55 ∷ []) e)

      by : (production_at s q ≡ 2) ⊎ (production_at s q ≡ 27) → ⊥
      by (inl e) = two (either p (tree.nested.rests p q up (eq-eqb (production_at s q) 2 e)))
      by (inr e) = of_item holds (item_in s brought p q up e)

  -- a declarator beside an initialiser, or beside what it stands in, stands in no other one
  is_outer : (r d : ℕ) → contains (children_at s r) d ≡ true → is_a s p_declarator d ≡ true → is_declarator s r ≡ false → is_outermost s d ≡ true
  is_outer r d child is off =
      ap (λ (b : Bool). ((b || is_a s p_abstract d) || is_a s p_either d) && elim (parent_of s d) as (λ _. Bool) [ None ↦ true | Some p ↦ not (is_declarator s p) ]) is
      ∙ (ap (λ (o : Option ℕ). elim o as (λ _. Bool) [ None ↦ true | Some p ↦ not (is_declarator s p) ]) (parent_is s tree.grown r d child) ∙ ap not off)

  of_number : (p n : ℕ) → production_at s p ≡ n → ((nat_eq n 19 || nat_eq n 20) || nat_eq n 21) ≡ false → is_declarator s p ≡ false
  of_number p n e off = ap (λ (q : ℕ). (nat_eq q 19 || nat_eq q 20) || nat_eq q 21) e ∙ off

  holder_is_none : (p : ℕ) → Holds s brought p → is_declarator s p ≡ false
  holder_is_none p (in_rest r) = of_number p 2 r refl
  holder_is_none p (in_other r) = three (member 27 (production_at s p) (54 ∷ 55 ∷ []) r)
    where
      last : (55 ≡ production_at s p) ⊎ (contains [] (production_at s p) ≡ true) → is_declarator s p ≡ false
      last (inl e) = of_number p 55 (sym e) refl
      last (inr e) = cc

      next : (54 ≡ production_at s p) ⊎ (contains (55 ∷ []) (production_at s p) ≡ true) → is_declarator s p ≡ false
      next (inl e) = of_number p 54 (sym e) refl
      next (inr e) = last (member 55 (production_at s p) [] e)

      three : (27 ≡ production_at s p) ⊎ (contains (54 ∷ 55 ∷ []) (production_at s p) ≡ true) → is_declarator s p ≡ false
      three (inl e) = of_number p 27 (sym e) refl
      three (inr e) = next (member 54 (production_at s p) (55 ∷ []) e)

  outer_at : (i d : ℕ) → production_at s i ≡ 25 → Place i d → is_outermost s d ≡ true
  outer_at i d e (beside p h x) = let own = last_in (test i) (children_at s p) d x in is_outer p d own.0 (and_both (is_a s p_declarator d) (nat_lt d i) own.1).0 (holder_is_none p (holder s brought p i h e))
  outer_at i d e (above p r h up none at is) = by (inner_holder s brought r p i up h e)
    where
      of_two : (production_at s r ≡ 1) ⊎ (production_at s r ≡ 3) → is_outermost s d ≡ true
      of_two (inl x) = is_outer r d at is (of_number r 1 x refl)
      of_two (inr x) = is_outer r d at is (of_number r 3 x refl)

      by : (production_at s p ≡ 2) ⊎ (production_at s p ≡ 27) → is_outermost s d ≡ true
      by (inl x) = of_two (either r (tree.nested.rests r p up (eq-eqb (production_at s p) 2 x)))
      by (inr x) = absurd (no_declarator_in s brought r d (item_in s brought r p up x) at (number p_declarator d is))

  pub stands_outermost : (sense : ℕ → Sense) (i d : ℕ) → is_a s p_init i ≡ true → initialised_by s sense i ≡ Some d → is_outermost s d ≡ true
  stands_outermost sense i d x e = outer_at i d (number p_init i x) (place_of sense i d e)

  abbrev once : (i j c : ℕ) → contains (children_at s i) c ≡ true → contains (children_at s j) c ≡ true → i ≡ j
  once i j c h g = tree.grown.once i j c h g

  -- two of one node: a declarator stands between
  two_in : (p i j : ℕ) → contains (children_at s p) i ≡ true → contains (children_at s p) j ≡ true → production_at s i ≡ 25 → production_at s j ≡ 25 → i < j → Between (children_at s p) i j
  two_in p i j h g e f lt = by (holder s brought p i h e)
    where
      by : Holds s brought p → Between (children_at s p) i j
      by (in_rest r) = between false 0 i j (children_at s p) (families.ascend p) (separated s brought p r) h g e f lt
      by (in_other r) = absurd (let same = one_init s brought p i j r h g e f in omega (arith, same, lt))

  passes : (j c : ℕ) → is_a s p_declarator c ≡ true → c < j → test j c ≡ true
  passes j c is lt = ap (λ (b : Bool). b && nat_lt c j) is ∙ lt-ltb c j lt

  not_less : (i j d : ℕ) → production_at s i ≡ 25 → production_at s j ≡ 25 → Place i d → Place j d → i < j → ⊥
  not_less i j d e f (beside p h x) (beside q g y) lt =
      let own = last_in (test i) (children_at s p) d x in
      let other = last_in (test j) (children_at s q) d y in
      let same = once q p d other.0 own.0 in
      let (c, at, is, low, high) = two_in p i j h (subst (λ (k : ℕ). contains (children_at s k) j ≡ true) same g) e f lt in
      let (l, last, le) = last_after 0 (test j) (children_at s p) c (families.ascend p) at (passes j c is high) in
      let one : l ≡ d = some_same (sym last ∙ (ap (λ (k : ℕ). last_where (test j) (children_at s k)) (sym same) ∙ y)) in
      let before = ltb-true d i (and_both (is_a s p_declarator d) (nat_lt d i) own.1).1 in
      omega (arith, le, one, before, low)
  not_less i j d e f (beside p h x) (above q r g up none at is) lt =
      let own = last_in (test i) (children_at s p) d x in
      let same = once r p d at own.0 in
      no_holder p q j (holder s brought p i h e) (subst (λ (k : ℕ). contains (children_at s k) q ≡ true) same up) g f
  not_less i j d e f (above p r h up none at is) (beside q g y) lt =
      let own = last_in (test j) (children_at s q) d y in
      let same = once r q d at own.0 in
      no_holder q p i (holder s brought q j g f) (subst (λ (k : ℕ). contains (children_at s k) p ≡ true) same up) h e
  not_less i j d e f (above p r h up none at is) (above q t g high last there kind) lt =
      let same = once t r d there at in
      let up_too : contains (children_at s r) q ≡ true = subst (λ (k : ℕ). contains (children_at s k) q ≡ true) same high in
      by (inner_holder s brought r p i up h e) (inner_holder s brought r q j up_too g f) up_too
    where
      item_no : (k : ℕ) → contains (children_at s r) k ≡ true → production_at s k ≡ 27 → ⊥
      item_no k u m = no_declarator_in s brought r d (item_in s brought r k u m) at (number p_declarator d is)

      by : (production_at s p ≡ 2) ⊎ (production_at s p ≡ 27) → (production_at s q ≡ 2) ⊎ (production_at s q ≡ 27) → contains (children_at s r) q ≡ true → ⊥
      by (inl x) (inl y) u =
          let one = one_rest s brought r p q up u x y in
          let (c, inside, kind, low, before) = two_in p i j h (subst (λ (k : ℕ). contains (children_at s k) j ≡ true) (sym one) g) e f lt in
          let (l, found, le) = last_after 0 (test j) (children_at s p) c (families.ascend p) inside (passes j c kind before) in
          none_some (sym last ∙ (ap (λ (k : ℕ). last_where (test j) (children_at s k)) (sym one) ∙ found))
      by (inr x) y u = item_no p up x
      by x (inr y) u = item_no q u y

  pub are_apart : (sense other : ℕ → Sense) (i j d : ℕ) → is_a s p_init i ≡ true → is_a s p_init j ≡ true → initialised_by s sense i ≡ Some d → initialised_by s other j ≡ Some d → i ≡ j
  are_apart sense other i j d x y e f = by (nat_eq i j) refl (nat_lt i j) refl
    where
      by : (b : Bool) → nat_eq i j ≡ b → (c : Bool) → nat_lt i j ≡ c → i ≡ j
      by true same c less = eqb-true i j same
      by false differ true less = absurd (not_less i j d (number p_init i x) (number p_init j y) (place_of sense i d e) (place_of other j d f) (ltb-true i j less))
      by false differ false less = absurd (not_less j i d (number p_init j y) (number p_init i x) (place_of other j d f) (place_of sense i d e) (turned (eqb-false i j differ) less))
        where
          turned : (i ≡ j → ⊥) → nat_lt i j ≡ false → j < i
          turned no_same off = grind (arith, no_same, off)

pub initialisers_apart : InitialisersApart
initialisers_apart tokens unit tree tag_number cut is sense other i j d x y e f =
    let s = numbered tag_number (source_of tokens tree) in
    are_apart s (tree_is tokens unit tree is tag_number) (units_families tokens unit tree tag_number cut is) (units_bring tokens unit tree tag_number is) sense other i j d x y e f
