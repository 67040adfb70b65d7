-- What stands to the left is the part before, or the one before that where that is a token.
use Rattle.std.proofs.Common.{arith, ◌≡◌, ◌<◌, ◌≤◌, ◌+◌, ◌-◌, ◌||◌, nat_eq, ℕ, zero, suc, Bool, true, false, List, [], ◌∷◌, Option, Some, None, length, take, slice_get, refl, sym, ap, ◌∙◌, subst, ◌⊎◌, inl, inr}
use Rattle.std.specs.Prelude.{if◌then◌else◌}
use Rattle.std.proofs.lemmas.Bool.{eqb-true}
use Rattle.c_grammar.specs.declared.trees.SyntaxNode.{SyntaxNode}
use Rattle.c_grammar.specs.Productions.{p_post}
use Rattle.c_grammar.specs.Terminals.{contains}
use Rattle.c_senses.specs.Names.{source_of, numbered}
use Rattle.c_senses.specs.Tree.{Source, children_of, children_at, is_a, is_leaf, left_of}
use Rattle.core_node_laws.specs.passed.parsed_tree_laws.span_laws.Spans.{Spans, Runs, over, no_more, one_more, weights, Spanned}
use Rattle.core_node_laws.proofs.passed.parsed_tree_laws.span_laws.Whole.{units_are_spanned}
use Rattle.declaration_laws.specs.definition_laws.scope_laws.Scoped.{IsPart}
use Rattle.core_node_laws.proofs.standing_laws.Climbing.{in_list, list_in}
use Rattle.declaration_laws.specs.declared_type_laws.owner_laws.Owners.{LeftsStand}
use Rattle.declaration_laws.specs.declared_type_laws.owner_laws.left_laws.Lefts.{UnitsLefts}

module _ (s : Source) (spanned : Spanned s) where
  none_run : (low high : ℕ) (list : List ℕ) → list ≡ [] → Runs s low list high → low ≡ high
  none_run low high list none no_more = refl
  none_run low high list none (one_more x more) = absurd (let f = none in cc)

  -- a leaf has its own number alone
  leaf_low : (low i : ℕ) → Spans s low i → is_leaf s i ≡ true → low ≡ i
  leaf_low low i (over runs) is = none_run low i (children_at s i) (spanned.leaves i is) runs

  -- the part before one, where there is one
  data Before (x : ℕ) (list : List ℕ) : Type 0 where
    none_before : list ≡ [] → Before x list
    last_before : (l : ℕ) → suc l ≡ x → contains list l ≡ true → (is_leaf s l ≡ true → (weights s list ≡ 1) ⊎ ((m : ℕ) × (suc m ≡ l) × (contains list m ≡ true))) → Before x list

  equal : (x : ℕ) → nat_eq x x ≡ true
  equal x = by (nat_eq x x) refl
    where
      by : (b : Bool) → nat_eq x x ≡ b → b ≡ true
      by true e = refl
      by false e = absurd (let f = list_in (x ∷ []) 0 x refl in let g : (nat_eq x x || false) ≡ true = f in let h : (false || false) ≡ true = subst (λ (b : Bool). (b || false) ≡ true) e g in cc)

  or_more : (a b : Bool) → b ≡ true → (a || b) ≡ true
  or_more true b e = refl
  or_more false b e = e

  leaf_weight : (c : ℕ) → is_leaf s c ≡ true → weights s (c ∷ []) ≡ 1
  leaf_weight c is = by (is_leaf s c) is
    where
      by : (b : Bool) → b ≡ true → (if b then 1 else 2) + 0 ≡ 1
      by true e = refl
      by false e = cc

  -- what runs up to a number ends directly before it
  ends : (low x : ℕ) (list : List ℕ) → Runs s low list x → Before x list
  ends low x [] no_more = none_before refl
  ends low x (c ∷ rest) (one_more {low = l} span runs) = by rest runs (ends (suc c) x rest runs)
    where
      here : contains (c ∷ rest) c ≡ true
      here = ap (λ (b : Bool). b || contains rest c) (equal c)

      second : (tail : List ℕ) → tail ≡ rest → (m : ℕ) → suc m ≡ x → contains rest m ≡ true → (is_leaf s m ≡ true → (weights s rest ≡ 1) ⊎ ((k : ℕ) × (suc k ≡ m) × (contains rest k ≡ true))) → Before x (c ∷ rest)
      second tail same m next has more = last_before m next (or_more (nat_eq c m) (contains rest m) has) lower
        where
          lower : is_leaf s m ≡ true → (weights s (c ∷ rest) ≡ 1) ⊎ ((k : ℕ) × (suc k ≡ m) × (contains (c ∷ rest) k ≡ true))
          lower is = pick (more is)
            where
              pick : (weights s rest ≡ 1) ⊎ ((k : ℕ) × (suc k ≡ m) × (contains rest k ≡ true)) → (weights s (c ∷ rest) ≡ 1) ⊎ ((k : ℕ) × (suc k ≡ m) × (contains (c ∷ rest) k ≡ true))
              pick (inr (k, e, h)) = inr (k, e, or_more (nat_eq c k) (contains rest k) h)
              pick (inl one) = inr (c, alone rest runs has one, here)
                where
                  heavy : (y : ℕ) (ys : List ℕ) → weights s (y ∷ ys) ≡ 1 → weights s ys ≡ 0
                  heavy y ys e = of (is_leaf s y) e
                    where
                      of : (b : Bool) → (if b then 1 else 2) + weights s ys ≡ 1 → weights s ys ≡ 0
                      of true f = omega (arith, f)
                      of false f = absurd (omega (arith, f))

                  empty : (ys : List ℕ) → weights s ys ≡ 0 → ys ≡ []
                  empty [] e = refl
                  empty (y ∷ ys) e = absurd (of (is_leaf s y) e)
                    where
                      of : (b : Bool) → (if b then 1 else 2) + weights s ys ≡ 0 → ⊥
                      of true f = omega (arith, f)
                      of false f = omega (arith, f)

                  alone : (tail : List ℕ) → Runs s (suc c) tail x → contains tail m ≡ true → weights s tail ≡ 1 → suc c ≡ m
                  alone [] run h w = cc
                  alone (y ∷ ys) (one_more {low = z} own others) h w =
                      let none : ys ≡ [] = empty ys (heavy y ys w) in
                      let only : (nat_eq y m || false) ≡ true = subst (λ (t : List ℕ). (nat_eq y m || contains t m) ≡ true) none h in
                      let same : y ≡ m = eqb-true y m (strip (nat_eq y m) only) in
                      leaf_low (suc c) y own (subst (λ (k : ℕ). is_leaf s k ≡ true) (sym same) is) ∙ same
                    where
                      strip : (b : Bool) → (b || false) ≡ true → b ≡ true
                      strip true e = refl
                      strip false e = cc

      by : (tail : List ℕ) → Runs s (suc c) tail x → Before x rest → Before x (c ∷ rest)
      by tail run (none_before none) = last_before c (none_run (suc c) x rest none runs) here (λ is. inl (subst (λ (t : List ℕ). weights s (c ∷ t) ≡ 1) (sym none) (leaf_weight c is)))
      by tail run (last_before m next has more) = second rest refl m next has more

  -- the parts before one run up to where it begins
  split : (low high : ℕ) (list : List ℕ) (k c : ℕ) → Runs s low list high → slice_get list k ≡ Some c → (x : ℕ) × Runs s low (take k list) x × Spans s x c
  split low high [] k c run e = cc
  split low high (d ∷ rest) zero c (one_more span more) e = (low, no_more, subst (λ (y : ℕ). Spans s low y) (let same : d ≡ c = cc in same) span)
  split low high (d ∷ rest) (suc k) c (one_more span more) e = let h = split (suc d) high rest k c more e in (h.0, one_more span h.1, h.2)

  taken_in : (list : List ℕ) (k l : ℕ) → contains (take k list) l ≡ true → contains list l ≡ true
  taken_in list zero l h = cc
  taken_in [] (suc k) l h = cc
  taken_in (d ∷ rest) (suc k) l h = by (nat_eq d l) h (taken_in rest k l)
    where
      by : (b : Bool) → (b || contains (take k rest) l) ≡ true → (contains (take k rest) l ≡ true → contains rest l ≡ true) → (b || contains rest l) ≡ true
      by true e more = refl
      by false e more = more e

  -- an operator behind what it follows begins with its first token
  begins_at : (x i first : ℕ) (rest : List ℕ) → is_a s p_post i ≡ true → children_at s i ≡ first ∷ rest → Spans s x i → x ≡ first
  begins_at x i first rest post e (over runs) = by x i (children_at s i) e runs
    where
      start : is_leaf s first ≡ true
      start = spanned.begins i first rest post e

      by : (x i : ℕ) (list : List ℕ) → list ≡ first ∷ rest → Runs s x list i → x ≡ first
      by x i list same no_more = absurd (let f = same in cc)
      by x i list same (one_more {c = d} span more) =
          let head : d ≡ first = (let f = same in cc) in
          leaf_low x d span (subst (λ (k : ℕ). is_leaf s k ≡ true) (sym head) start) ∙ head

  runs_of : (p k c : ℕ) → slice_get (children_at s p) k ≡ Some c → p < length s.nodes
  runs_of p k c e = by (slice_get s.nodes p) refl e
    where
      within : {A : Type 0} (xs : List A) (n : ℕ) (y : A) → slice_get xs n ≡ Some y → n < length xs
      within [] n y e = cc
      within (x ∷ xs) zero y e = omega arith
      within (x ∷ xs) (suc n) y e = let lt = within xs n y e in omega (arith, lt)

      by : (o : Option SyntaxNode) → slice_get s.nodes p ≡ o → slice_get (children_of o) k ≡ Some c → p < length s.nodes
      by None at e = cc
      by (Some n) at e = within s.nodes p n at

  left_part : LeftsStand s
  left_part i first p rest post e part = by (split (spanned.each p lt).0 p (children_at s p) k.0 i (parts (spanned.each p lt).1) k.1)
    where
      k : (j : ℕ) × (slice_get (children_at s p) j ≡ Some i)
      k = in_list (children_at s p) i part

      lt : p < length s.nodes
      lt = runs_of p k.0 i k.1

      parts : {low : ℕ} → Spans s low p → Runs s low (children_at s p) p
      parts (over runs) = runs

      heavy : 2 ≤ weights s (take k.0 (children_at s p))
      heavy = spanned.behind p k.0 i k.1 post

      of : (x : ℕ) → x ≡ first → Before x (take k.0 (children_at s p)) → IsPart s p (left_of s first)
      of x same (none_before none) = absurd (let w : 2 ≤ weights s [] = subst (λ (l : List ℕ). 2 ≤ weights s l) none heavy in omega (arith, w))
      of x same (last_before l next has lower) = pick (is_leaf s (first - 1)) refl
        where
          one : first - 1 ≡ l
          one = omega (arith, same, next)

          pick : (b : Bool) → is_leaf s (first - 1) ≡ b → IsPart s p (if b then first - 2 else first - 1)
          pick false is = subst (λ (y : ℕ). IsPart s p y) (sym one) (taken_in (children_at s p) k.0 l has)
          pick true is = two (lower (subst (λ (y : ℕ). is_leaf s y ≡ true) one is))
            where
              two : (weights s (take k.0 (children_at s p)) ≡ 1) ⊎ ((m : ℕ) × (suc m ≡ l) × (contains (take k.0 (children_at s p)) m ≡ true)) → IsPart s p (first - 2)
              two (inl light) = absurd (omega (arith, heavy, light))
              two (inr (m, before, there)) = let at : first - 2 ≡ m = omega (arith, same, next, before) in subst (λ (y : ℕ). IsPart s p y) (sym at) (taken_in (children_at s p) k.0 m there)

      by : (x : ℕ) × Runs s (spanned.each p lt).0 (take k.0 (children_at s p)) x × Spans s x i → IsPart s p (left_of s first)
      by (x, runs, span) = of x (begins_at x i first rest post e span) (ends (spanned.each p lt).0 x (take k.0 (children_at s p)) runs)

pub lefts_stand : UnitsLefts
lefts_stand tokens unit tree tag_number is = left_part (numbered tag_number (source_of tokens tree)) (units_are_spanned tokens unit tree tag_number is)
