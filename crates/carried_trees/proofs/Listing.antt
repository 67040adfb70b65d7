-- Compound literals, by their leaves and by the nodes of a tree.
use Rattle.std.proofs.Common.{arith, ◌≡◌, ◌∙◌, ℕ, zero, suc, ◌+◌, ◌<◌, ◌⊎◌, inl, inr, Bool, true, false, cond, List, [], ◌∷◌, ◌++◌, length, length-append, slice_get, Option, Some, None, is_some, refl, sym, ap, subst}
use Rattle.std.proofs.lemmas.Bool.Decides.{eqb_tells}
use Rattle.std.proofs.lemmas.Option.{slice_get_within}
use Rattle.core_tree.specs.declared.node.Node.{Node}
use Rattle.core_tree.specs.declared.node.NodeKind.TheVariants.{Literal}
use Rattle.tree_reads.specs.leaf_maps.Numbers.{number_at}
use Rattle.carried_trees.specs.declared.literals.OwnLiterals.{OwnLiterals}
use Rattle.carried_trees.specs.Literals.{literal_number, EachOnce, AreRising, IsFound, AreFound}
use Rattle.carried_trees.specs.Numbered.{AreNumbered}

some_one : {X : Type 0} → {x y : X} → ◌≡◌ {A = Option X} (Some x) (Some y) → x ≡ y
some_one e = cc

-- numbers by leaves
number_here : (first : ℕ) (l : ℕ × ℕ) (rest : List (ℕ × ℕ)) (leaf : ℕ) → l.0 ≡ leaf → literal_number first (l ∷ rest) leaf ≡ Some first
number_here first l rest leaf e =
    elim (eqb_tells l.0 leaf) [ inl p ↦ ap (λ (b : Bool). cond b (Some first) (literal_number (suc first) rest leaf)) p.0 | inr p ↦ absurd (p.1 e) ]

number_past : (first : ℕ) (l : ℕ × ℕ) (rest : List (ℕ × ℕ)) (leaf : ℕ) → (l.0 ≡ leaf → ⊥) → literal_number first (l ∷ rest) leaf ≡ literal_number (suc first) rest leaf
number_past first l rest leaf e =
    elim (eqb_tells l.0 leaf) [ inl p ↦ absurd (e p.1) | inr p ↦ ap (λ (b : Bool). cond b (Some first) (literal_number (suc first) rest leaf)) p.0 ]

-- what has a number keeps it
number_stays : (first : ℕ) (list more : List (ℕ × ℕ)) (leaf e : ℕ) → literal_number first list leaf ≡ Some e → literal_number first (list ++ more) leaf ≡ Some e
number_stays first [] more leaf e h = cc
number_stays first (l ∷ list) more leaf e h =
    elim (eqb_tells l.0 leaf) [
      | inl p ↦ number_here first l (list ++ more) leaf p.1 ∙ (sym (number_here first l list leaf p.1) ∙ h)
      | inr p ↦ number_past first l (list ++ more) leaf p.1 ∙ number_stays (suc first) list more leaf e (sym (number_past first l list leaf p.1) ∙ h)
    ]

number_last : (first : ℕ) (list : List (ℕ × ℕ)) (leaf at : ℕ) → literal_number first list leaf ≡ None → literal_number first (list ++ (leaf, at) ∷ []) leaf ≡ Some (first + length list)
number_last first [] leaf at h =
    let e : first ≡ first + length {A = ℕ × ℕ} [] = omega arith in number_here first (leaf, at) [] leaf refl ∙ ap Some e
number_last first (l ∷ list) leaf at h =
    elim (eqb_tells l.0 leaf) [
      | inl p ↦ none_some (sym h ∙ number_here first l list leaf p.1)
      | inr p ↦
          let e : suc first + length list ≡ first + length (l ∷ list) = omega arith in
          number_past first l (list ++ (leaf, at) ∷ []) leaf p.1 ∙ (number_last (suc first) list leaf at (sym (number_past first l list leaf p.1) ∙ h) ∙ ap Some e)
    ]
  where
    none_some : {X : Type 0} {x : ℕ} → ◌≡◌ {A = Option ℕ} None (Some x) → X
    none_some g = cc

number_other : (first : ℕ) (list : List (ℕ × ℕ)) (leaf at q : ℕ) → (leaf ≡ q → ⊥) → literal_number first (list ++ (leaf, at) ∷ []) q ≡ literal_number first list q
number_other first [] leaf at q d = number_past first (leaf, at) [] q d
number_other first (l ∷ list) leaf at q d =
    elim (eqb_tells l.0 q) [
      | inl p ↦ number_here first l (list ++ (leaf, at) ∷ []) q p.1 ∙ sym (number_here first l list q p.1)
      | inr p ↦ number_past first l (list ++ (leaf, at) ∷ []) q p.1 ∙ (number_other (suc first) list leaf at q d ∙ sym (number_past first l list q p.1))
    ]

-- what has a number is listed
pub number_found : (first : ℕ) (list : List (ℕ × ℕ)) (leaf e : ℕ) → literal_number first list leaf ≡ Some e → (k : ℕ) × (l : ℕ × ℕ) × (slice_get list k ≡ Some l) × (l.0 ≡ leaf)
number_found first [] leaf e h = cc
number_found first (l ∷ list) leaf e h =
    elim (eqb_tells l.0 leaf) [
      | inl p ↦ (0, l, refl, p.1)
      | inr p ↦ let f = number_found (suc first) list leaf e (sym (number_past first l list leaf p.1) ∙ h) in (suc f.0, f.1, f.2, f.3)
    ]

some_of : {A : Type 0} (o : Option A) → is_some o ≡ true → (x : A) × (o ≡ Some x)
some_of None h = cc
some_of (Some x) h = (x, refl)

pub none_of : {A : Type 0} (o : Option A) → is_some o ≡ false → o ≡ None
none_of None h = refl
none_of (Some x) h = cc

-- what stands in a list with one more at its end
at_end : {A : Type 0} (xs : List A) (y z : A) (k : ℕ) → slice_get (xs ++ y ∷ []) k ≡ Some z → (slice_get xs k ≡ Some z) ⊎ ((k ≡ length xs) × (z ≡ y))
at_end [] y z zero h = inr (refl, sym (some_one h))
at_end [] y z (suc k) h = cc
at_end (x ∷ xs) y z zero h = inl h
at_end (x ∷ xs) y z (suc k) h = elim (at_end xs y z k h) [ inl p ↦ inl p | inr p ↦ inr (omega (arith, p.0), p.1) ]

literal_same : (a b : ℕ) → Literal a ≡ Literal b → a ≡ b
literal_same a b e = cc

module _ (nodes : List Node) (from first count : ℕ) (list : List (ℕ × ℕ)) (h : AreFound nodes from first count list) (node : Node) (there : slice_get nodes count ≡ Some node) where
  found_on : (l : ℕ × ℕ) → IsFound nodes from count l → IsFound nodes from (count + 1) l
  found_on l f = record { place = f.place; few = let few = f.few in omega arith; at = f.at; node = f.node; there = f.there; kind = f.kind }

  -- no literal, or one that is listed
  pub found_more : ((leaf : ℕ) → node.kind ≡ Literal leaf → is_some (literal_number first list leaf) ≡ true) → AreFound nodes from first (count + 1) list
  found_more listed = record {
    all = λ m x leaf lt at is. elim (eqb_tells m count) [
      | inl p ↦
          let same : node ≡ x = some_one (sym there ∙ (ap (λ (i : ℕ). slice_get nodes i) (sym p.1) ∙ at)) in
          listed leaf (ap (λ (n : Node). n.kind) same ∙ is)
      | inr p ↦ h.all m x leaf (omega (arith, lt, p.1)) at is
    ];
    each = λ k l at. found_on l (h.each k l at);
    once = h.once;
    rising = h.rising;
  }

  module _ (leaf at : ℕ) (kind : node.kind ≡ Literal leaf) (none : literal_number first list leaf ≡ None) (is_at : at ≡ from + count) where
    new_found : IsFound nodes from (count + 1) (leaf, at)
    new_found = record { place = count; few = omega arith; at = is_at; node = node; there = there; kind = kind }

    all_found : (m : ℕ) (x : Node) (q : ℕ) → m < count + 1 → slice_get nodes m ≡ Some x → x.kind ≡ Literal q → is_some (literal_number first (list ++ (leaf, at) ∷ []) q) ≡ true
    all_found m x q lt at_m is =
        elim (eqb_tells m count) [
          | inl p ↦
              let same : node ≡ x = some_one (sym there ∙ (ap (λ (i : ℕ). slice_get nodes i) (sym p.1) ∙ at_m)) in
              let e : leaf ≡ q = literal_same leaf q (sym kind ∙ (ap (λ (n : Node). n.kind) same ∙ is)) in
              subst (λ (i : ℕ). is_some (literal_number first (list ++ (leaf, at) ∷ []) i) ≡ true) e (ap is_some (number_last first list leaf at none))
          | inr p ↦
              let s = some_of (literal_number first list q) (h.all m x q (omega (arith, lt, p.1)) at_m is) in
              ap is_some (number_stays first list ((leaf, at) ∷ []) q s.0 s.1)
        ]

    each_found : (k : ℕ) (l : ℕ × ℕ) → slice_get (list ++ (leaf, at) ∷ []) k ≡ Some l → IsFound nodes from (count + 1) l
    each_found k l e = elim (at_end list (leaf, at) l k e) [ inl p ↦ found_on l (h.each k l p) | inr p ↦ subst (λ (q : ℕ × ℕ). IsFound nodes from (count + 1) q) (sym p.1) new_found ]

    once_found : EachOnce first (list ++ (leaf, at) ∷ [])
    once_found k l e =
        elim (at_end list (leaf, at) l k e) [
          | inl p ↦ number_stays first list ((leaf, at) ∷ []) l.0 (first + k) (h.once k l p)
          | inr p ↦
              let same : l.0 ≡ leaf = ap (λ (q : ℕ × ℕ). q.0) p.1 in
              ap (λ (q : ℕ). literal_number first (list ++ (leaf, at) ∷ []) q) same ∙ (number_last first list leaf at none ∙ ap (λ (n : ℕ). Some (first + n)) (sym p.0))
        ]

    rising_found : AreRising (list ++ (leaf, at) ∷ [])
    rising_found j k l m lt ej ek =
        elim (at_end list (leaf, at) l j ej) [
          | inl p ↦ elim (at_end list (leaf, at) m k ek) [
            | inl q ↦ h.rising j k l m lt p q
            | inr q ↦
                let f = h.each j l p in
                let last : m.1 ≡ at = ap (λ (x : ℕ × ℕ). x.1) q.1 in
                omega (arith, f.few, f.at, last, is_at)
          ]
          | inr p ↦ elim (at_end list (leaf, at) m k ek) [
            | inl q ↦ let w = slice_get_within list k m q in absurd (omega (arith, w, p.0, lt))
            | inr q ↦ absurd (omega (arith, q.0, p.0, lt))
          ]
        ]

    pub found_new : AreFound nodes from first (count + 1) (list ++ (leaf, at) ∷ [])
    found_new = record { all = all_found; each = each_found; once = once_found; rising = rising_found }

pub found_none : (nodes : List Node) (from first : ℕ) → AreFound nodes from first 0 []
found_none nodes from first = record { all = λ m x leaf lt at is. absurd (omega arith); each = λ k l e. cc; once = λ k l e. cc; rising = λ j k l m lt e f. cc }

-- a literal that is listed
pub listed_again : (nodes : List Node) (from first count : ℕ) (own : OwnLiterals) (node : Node) (leaf : ℕ) → AreNumbered nodes from first count own → slice_get nodes count ≡ Some node → node.kind ≡ Literal leaf → is_some (number_at own.numbers leaf) ≡ true
    → AreNumbered nodes from first (count + 1) own
listed_again nodes from first count own node leaf h there kind some = record {
  found = found_more nodes from first count own.list.items h.found node there (λ q is. let e : leaf ≡ q = literal_same leaf q (sym kind ∙ is) in
      subst (λ (i : ℕ). is_some (literal_number first own.list.items i) ≡ true) e (ap is_some (sym (h.numbers leaf)) ∙ some));
  numbers = h.numbers;
  next = h.next;
}

pub not_listed : (nodes : List Node) (from first count : ℕ) (own : OwnLiterals) (node : Node) → AreNumbered nodes from first count own → slice_get nodes count ≡ Some node → ((leaf : ℕ) → node.kind ≡ Literal leaf → ⊥)
    → AreNumbered nodes from first (count + 1) own
not_listed nodes from first count own node h there none = record {
  found = found_more nodes from first count own.list.items h.found node there (λ q is. absurd (none q is));
  numbers = h.numbers;
  next = h.next;
}

pub listed_new : (nodes : List Node) (from first count : ℕ) (own new : OwnLiterals) (node : Node) (leaf at : ℕ) → AreNumbered nodes from first count own → slice_get nodes count ≡ Some node → node.kind ≡ Literal leaf → at ≡ from + count
    → number_at own.numbers leaf ≡ None → number_at new.numbers leaf ≡ Some own.next → ((q : ℕ) → (leaf ≡ q → ⊥) → number_at new.numbers q ≡ number_at own.numbers q)
    → new.list.items ≡ own.list.items ++ (leaf, at) ∷ [] → new.next ≡ own.next + 1
    → AreNumbered nodes from first (count + 1) new
listed_new nodes from first count own new node leaf at h there kind is_at none added others list next = record {
  found = subst (λ (l : List (ℕ × ℕ)). AreFound nodes from first (count + 1) l) (sym list) (found_new nodes from first count own.list.items h.found node there leaf at kind free is_at);
  numbers = λ q. elim (eqb_tells leaf q) [
    | inl p ↦
        ap (number_at new.numbers) (sym p.1)
        ∙ (added ∙ (ap Some h.next ∙ (sym (number_last first own.list.items leaf at free) ∙ (ap (λ (l : List (ℕ × ℕ)). literal_number first l leaf) (sym list) ∙ ap (literal_number first new.list.items) p.1))))
    | inr p ↦
        others q p.1
        ∙ (h.numbers q ∙ (sym (number_other first own.list.items leaf at q p.1) ∙ ap (λ (l : List (ℕ × ℕ)). literal_number first l q) (sym list)))
  ];
  next = let l = ap length list ∙ length-append own.list.items ((leaf, at) ∷ []) in omega (arith, next, h.next, l);
}
  where
    free : literal_number first own.list.items leaf ≡ None
    free = sym (h.numbers leaf) ∙ none
