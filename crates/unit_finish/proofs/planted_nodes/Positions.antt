-- Positions, one after another.
use Rattle.std.proofs.Common.{arith, ◌≡◌, ◌∙◌, ℕ, zero, suc, ◌+◌, ◌-◌, ◌<◌, ◌≤◌, ◌⊎◌, inl, inr, List, [], ◌∷◌, ◌++◌, length, length-append, get_or, Option, Some, None, refl, sym, ap, subst}
use Rattle.std.proofs.lemmas.List.{get_or_append_left, get_or_at, get_or-append-add, get_or-set_same, get_or-set_other}
use Rattle.std.proofs.Math.ListN.{set, length-set}
use Rattle.core_tree.specs.declared.node.Node.{Node}
use Rattle.unit_finish.specs.planted_nodes.Grown.{children_of, under_at, end_at, IsGrown, IsCovered, IsNoted, AreMet, Notes, GrowsFrom}

pub lt_or_same : (p n : ℕ) → p < n + 1 → (p < n) ⊎ (p ≡ n)
lt_or_same zero zero lt = inr refl
lt_or_same zero (suc n) lt = inl (omega arith)
lt_or_same (suc p) zero lt = absurd (omega (arith, lt))
lt_or_same (suc p) (suc n) lt = elim (lt_or_same p n (omega (arith, lt))) [
  | inl less ↦ inl (omega (arith, less))
  | inr same ↦ inr (ap suc same)
]

pub below_or : (p n : ℕ) → (p < n) ⊎ (n ≤ p)
below_or p zero = inr (omega arith)
below_or zero (suc n) = inl (omega arith)
below_or (suc p) (suc n) = elim (below_or p n) [
  | inl less ↦ inl (omega (arith, less))
  | inr le ↦ inr (omega (arith, le))
]

-- one more is noted
pub notes_none : (from : ℕ) (children : List ℕ) (met : List (Option ℕ)) → Notes from children 0 met met
notes_none from children met = record { each = λ b c h. inl h; long = refl; kept = λ b h. h; noted = λ k lt. absurd (omega (arith, lt)) }

same_or_not : (a b : ℕ) → (a ≡ b) ⊎ (a ≡ b → ⊥)
same_or_not zero zero = inl refl
same_or_not zero (suc b) = inr (λ e. omega (arith, e))
same_or_not (suc a) zero = inr (λ e. omega (arith, e))
same_or_not (suc a) (suc b) = elim (same_or_not a b) [
  | inl e ↦ inl (ap suc e)
  | inr not ↦ inr (λ e. not (omega (arith, e)))
]

-- what one write notes
module _ (met : List (Option ℕ)) (child at : ℕ) (within : child < length met) where
  here : get_or (set met child (Some at)) child None ≡ Some at
  here = get_or-set_same met child (Some at) None within

  each_written : (b c : ℕ) → get_or (set met child (Some at)) b None ≡ Some c → (get_or met b None ≡ Some c) ⊎ ((k : ℕ) × (k < 1) × (c ≡ at + k) × (get_or (child ∷ []) k 0 ≡ b))
  each_written b c h = elim (same_or_not b child) [
    | inl same ↦
        let both : Some at ≡ Some c = sym here ∙ (ap (λ (i : ℕ). get_or (set met child (Some at)) i None) (sym same) ∙ h) in
        let one : at ≡ c = cc in inr (0, omega arith, omega (arith, one), sym same)
    | inr other ↦ inl (sym (get_or-set_other met child b (Some at) None other) ∙ h)
  ]

  kept_written : (b : ℕ) → IsNoted met b → IsNoted (set met child (Some at)) b
  kept_written b h = elim (same_or_not b child) [
    | inl same ↦ (at, ap (λ (i : ℕ). get_or (set met child (Some at)) i None) same ∙ here)
    | inr other ↦ (h.0, get_or-set_other met child b (Some at) None other ∙ h.1)
  ]

  noted_written : (k : ℕ) → k < 1 → IsNoted (set met child (Some at)) (get_or (child ∷ []) k 0)
  noted_written zero lt = (at, here)
  noted_written (suc k) lt = absurd (omega (arith, lt))

  pub written : Notes at (child ∷ []) 1 met (set met child (Some at))
  written = record { each = each_written; long = length-set met child (Some at); kept = kept_written; noted = λ k lt few. noted_written k lt }

not_within : (met : List (Option ℕ)) (child k : ℕ) → k < 1 → (child < length met → ⊥) → get_or (child ∷ []) k 0 < length met → IsNoted met (get_or (child ∷ []) k 0)
not_within met child zero lt not within = absurd (not within)
not_within met child (suc k) lt not within = absurd (omega (arith, lt))

-- a node that isn't there is not noted
pub unwritten : (met : List (Option ℕ)) (child at : ℕ) → (child < length met → ⊥) → Notes at (child ∷ []) 1 met met
unwritten met child at not = record { each = λ b c h. inl h; long = refl; kept = λ b h. h; noted = λ k lt within. not_within met child k lt not within }

one_noted : (from k b c : ℕ) (children : List ℕ) (child : ℕ) → get_or children k 0 ≡ child → (j : ℕ) × (j < 1) × (c ≡ (from + k) + j) × (get_or (child ∷ []) j 0 ≡ b) → (i : ℕ) × (i < k + 1) × (c ≡ from + i) × (get_or children i 0 ≡ b)
one_noted from k b c children child e (zero, lt, at, is) = (k, omega arith, omega (arith, at), e ∙ is)
one_noted from k b c children child e (suc j, lt, at, is) = absurd (omega (arith, lt))

module _ (from k : ℕ) (children : List ℕ) (child : ℕ) (old mid new : List (Option ℕ)) (first : Notes from children k old mid) (then : Notes (from + k) (child ∷ []) 1 mid new) (e : get_or children k 0 ≡ child) where
  noted_more : (j : ℕ) → j < k + 1 → get_or children j 0 < length new → IsNoted new (get_or children j 0)
  noted_more j lt within = elim (lt_or_same j k lt) [
    | inl less ↦ then.kept (get_or children j 0) (first.noted j less (omega (arith, within, then.long)))
    | inr same ↦
        let is : get_or children j 0 ≡ child = ap (λ (i : ℕ). get_or children i 0) same ∙ e in
        subst (IsNoted new) (sym is) (then.noted 0 (omega arith) (omega (arith, within, is)))
  ]

  pub notes_more : Notes from children (k + 1) old new
  notes_more = record {
    each = λ b c h. elim (then.each b c h) [
      | inl m ↦ elim (first.each b c m) [
        | inl o ↦ inl o
        | inr n ↦ inr (n.0, omega (arith, n.1), n.2, n.3)
      ]
      | inr n ↦ inr (one_noted from k b c children child e n)
    ];
    long = then.long ∙ first.long;
    kept = λ b h. then.kept b (first.kept b h);
    noted = noted_more;
  }

pub none_grows : (o s : List ℕ) → GrowsFrom o s o s
none_grows o s = record { more = omega arith; further = omega arith; origins = λ p lt. refl; starts = λ p lt. refl }

-- further origins
module _ (nodes : List Node) (o s more : List ℕ) (g : IsGrown nodes o s) where
  origin_kept : (p : ℕ) → p < length o → get_or (o ++ more) p 0 ≡ get_or o p 0
  origin_kept p lt = get_or_append_left o more 0 p lt

  longer : length (o ++ more) ≡ length o + length more
  longer = length-append o more

  under_kept : (p : ℕ) → p < length s → under_at nodes (o ++ more) p ≡ under_at nodes o p
  under_kept p lt = ap (children_of nodes) (origin_kept p (omega (arith, lt, g.few)))

  end_kept : (p : ℕ) → p < length s → end_at nodes (o ++ more) s p ≡ end_at nodes o s p
  end_kept p lt = ap (λ (cs : List ℕ). get_or s p 0 + length cs) (under_kept p lt)

  few_kept : (p k : ℕ) → p < length s → k < length (under_at nodes (o ++ more) p) → k < length (under_at nodes o p)
  few_kept p k lt few = subst (λ (cs : List ℕ). k < length cs) (under_kept p lt) few

  pub grown_more : IsGrown nodes (o ++ more) s
  grown_more = record {
    few = omega (arith, g.few, longer);
    later = g.later;
    within = λ p lt. omega (arith, end_kept p lt, g.within p lt, longer);
    apart = λ p q lt few. (let kept = end_kept p (omega (arith, lt, few)) in omega (arith, kept, g.apart p q lt few));
    children = λ p k lt few.
        (let less : k < length (under_at nodes o p) = few_kept p k lt few in
        let inside = g.within p lt in
        origin_kept (get_or s p 0 + k) (omega (arith, less, inside)) ∙ (g.children p k lt less ∙ ap (λ (cs : List ℕ). get_or cs k 0) (sym (under_kept p lt))));
  }

  pub covered_more : (q : ℕ) → IsCovered nodes o s q → IsCovered nodes (o ++ more) s q
  covered_more q c = record {
    parent = c.parent;
    place = c.place;
    before = c.before;
    few = subst (λ (cs : List ℕ). c.place < length cs) (sym (under_kept c.parent c.before)) c.few;
    here = c.here;
  }

  covered_less : (q : ℕ) → IsCovered nodes (o ++ more) s q → IsCovered nodes o s q
  covered_less q c = record {
    parent = c.parent;
    place = c.place;
    before = c.before;
    few = few_kept c.parent c.place c.before c.few;
    here = c.here;
  }

  covered_within : (q : ℕ) → IsCovered nodes o s q → q < length o
  covered_within q c = let inside = g.within c.parent c.before in omega (arith, inside, c.few, c.here)

  pub met_more : (met : List (Option ℕ)) → AreMet nodes o s met → AreMet nodes (o ++ more) s met
  met_more met m = record {
    within = λ b c h. (let lt = m.within b c h in omega (arith, lt, longer));
    origin = λ b c h. origin_kept c (m.within b c h) ∙ m.origin b c h;
    covered = λ b c h. covered_more c (m.covered b c h);
    long = m.long;
    all = λ q c within.
        (let was = covered_less q c in
        let few : q < length o = covered_within q was in
        subst (IsNoted met) (sym (origin_kept q few)) (m.all q was (subst (λ (n : ℕ). n < length nodes) (origin_kept q few) within)));
  }

  pub grows_more : (first started : List ℕ) → GrowsFrom first started o s → GrowsFrom first started (o ++ more) s
  grows_more first started h = record {
    more = omega (arith, h.more, longer);
    further = h.further;
    origins = λ p lt. origin_kept p (omega (arith, lt, h.more)) ∙ h.origins p lt;
    starts = h.starts;
  }

-- the children of the next position, which stand at the end
module _ (nodes : List Node) (o s : List ℕ) (n : ℕ) (g : IsGrown nodes o s) (next : length s < length o) (ends : (p : ℕ) → p < length s → end_at nodes o s p ≤ n) (behind : length s < n) (room : n + length (under_at nodes o (length s)) ≡ length o) (they : (k : ℕ) → k < length (under_at nodes o (length s)) → get_or o (n + k) 0 ≡ get_or (under_at nodes o (length s)) k 0) where
  start_kept : (p : ℕ) → p < length s → get_or (s ++ n ∷ []) p 0 ≡ get_or s p 0
  start_kept p lt = get_or_append_left s (n ∷ []) 0 p lt

  start_new : get_or (s ++ n ∷ []) (length s) 0 ≡ n
  start_new = get_or_at s n [] 0 (length s) refl

  one_longer : length (s ++ n ∷ []) ≡ length s + 1
  one_longer = length-append s (n ∷ [])

  kept_or_new : (p : ℕ) → p < length (s ++ n ∷ []) → (p < length s) ⊎ (p ≡ length s)
  kept_or_new p lt = lt_or_same p (length s) (omega (arith, lt, one_longer))

  pub grown_on : IsGrown nodes o (s ++ n ∷ [])
  grown_on = record {
    few = omega (arith, one_longer, next);
    later = λ p lt. elim (kept_or_new p lt) [
      | inl less ↦ (let kept = start_kept p less in omega (arith, kept, g.later p less))
      | inr same ↦ subst (λ (r : ℕ). r < get_or (s ++ n ∷ []) r 0) (sym same) (omega (arith, start_new, behind))
    ];
    within = λ p lt. elim (kept_or_new p lt) [
      | inl less ↦ (let kept = start_kept p less in omega (arith, kept, g.within p less))
      | inr same ↦ subst (λ (r : ℕ). end_at nodes o (s ++ n ∷ []) r ≤ length o) (sym same) (omega (arith, start_new, room))
    ];
    apart = λ p q lt few. elim (kept_or_new q few) [
      | inl less ↦ (let kept = start_kept p (omega (arith, lt, less)) in
          let other = start_kept q less in omega (arith, kept, other, g.apart p q lt less))
      | inr same ↦ (let early : p < length s = omega (arith, lt, same) in
          let kept = start_kept p early in
          let first = ends p early in
          subst (λ (r : ℕ). end_at nodes o (s ++ n ∷ []) p ≤ get_or (s ++ n ∷ []) r 0) (sym same) (omega (arith, kept, first, start_new)))
    ];
    children = λ p k lt few. elim (kept_or_new p lt) [
      | inl less ↦ ap (λ (m : ℕ). get_or o (m + k) 0) (start_kept p less) ∙ g.children p k less few
      | inr same ↦ subst (λ (r : ℕ). k < length (under_at nodes o r) → get_or o (get_or (s ++ n ∷ []) r 0 + k) 0 ≡ get_or (under_at nodes o r) k 0) (sym same)
          (λ less. ap (λ (m : ℕ). get_or o (m + k) 0) start_new ∙ they k less) few
    ];
  }

  pub covered_on : (q : ℕ) → IsCovered nodes o s q → IsCovered nodes o (s ++ n ∷ []) q
  covered_on q c = record {
    parent = c.parent;
    place = c.place;
    before = omega (arith, c.before, one_longer);
    few = c.few;
    here = ap (λ (m : ℕ). m + c.place) (start_kept c.parent c.before) ∙ c.here;
  }

  -- all from there on are covered
  pub covered_new : (q : ℕ) → n ≤ q → q < length o → IsCovered nodes o (s ++ n ∷ []) q
  covered_new q le lt = record {
    parent = length s;
    place = q - n;
    before = omega (arith, one_longer);
    few = omega (arith, le, lt, room);
    here = ap (λ (m : ℕ). m + (q - n)) start_new ∙ omega (arith, le);
  }

  pub met_on : (met new : List (Option ℕ)) → AreMet nodes o s met → Notes n (under_at nodes o (length s)) (length (under_at nodes o (length s))) met new → AreMet nodes o (s ++ n ∷ []) new
  met_on met new m notes = record {
    within = λ b c h. elim (notes.each b c h) [
      | inl was ↦ m.within b c was
      | inr k ↦ omega (arith, k.1, k.2, room)
    ];
    origin = λ b c h. elim (notes.each b c h) [
      | inl was ↦ m.origin b c was
      | inr k ↦ ap (λ (q : ℕ). get_or o q 0) k.2 ∙ (they k.0 k.1 ∙ k.3)
    ];
    covered = λ b c h. elim (notes.each b c h) [
      | inl was ↦ covered_on c (m.covered b c was)
      | inr k ↦ covered_new c (omega (arith, k.2)) (omega (arith, k.1, k.2, room))
    ];
    long = notes.long ∙ m.long;
    all = λ q c within. elim (kept_or_new c.parent c.before) [
      | inl less ↦ notes.kept (get_or o q 0) (m.all q (record { parent = c.parent; place = c.place; before = less; few = c.few; here = ap (λ (r : ℕ). r + c.place) (sym (start_kept c.parent less)) ∙ c.here }) within)
      | inr same ↦
          let few : c.place < length (under_at nodes o (length s)) = subst (λ (r : ℕ). c.place < length (under_at nodes o r)) same c.few in
          let at : q ≡ n + c.place = sym c.here ∙ ap (λ (r : ℕ). r + c.place) (ap (λ (r : ℕ). get_or (s ++ n ∷ []) r 0) same ∙ start_new) in
          let is : get_or o q 0 ≡ get_or (under_at nodes o (length s)) c.place 0 = ap (λ (r : ℕ). get_or o r 0) at ∙ they c.place few in
          subst (IsNoted new) (sym is) (notes.noted c.place few (omega (arith, within, is, notes.long, m.long)))
    ];
  }

  pub grows_on : (first begun : List ℕ) → GrowsFrom first begun o s → GrowsFrom first begun o (s ++ n ∷ [])
  grows_on first begun h = record {
    more = h.more;
    further = omega (arith, one_longer, h.further);
    origins = h.origins;
    starts = λ p lt. start_kept p (omega (arith, lt, h.further)) ∙ h.starts p lt;
  }

-- one more position has its children, at the end
module _ (nodes : List Node) (o s new_o new_s : List ℕ) (met new_met : List (Option ℕ)) (g : IsGrown nodes o s) (m : AreMet nodes o s met) (next : length s < length o) (origins_are : new_o ≡ o ++ under_at nodes o (length s)) (starts_are : new_s ≡ s ++ length o ∷ []) (notes : Notes (length o) (under_at nodes o (length s)) (length (under_at nodes o (length s))) met new_met) where
  abbrev more : List ℕ
  more = under_at nodes o (length s)

  same_under : under_at nodes (o ++ under_at nodes o (length s)) (length s) ≡ under_at nodes o (length s)
  same_under = ap (children_of nodes) (get_or_append_left o (under_at nodes o (length s)) 0 (length s) next)

  wider : length (o ++ under_at nodes o (length s)) ≡ length o + length (under_at nodes o (length s))
  wider = length-append o (under_at nodes o (length s))

  all_in : length o + length (under_at nodes (o ++ under_at nodes o (length s)) (length s)) ≡ length (o ++ under_at nodes o (length s))
  all_in = ap (λ (cs : List ℕ). length o + length cs) same_under ∙ sym wider

  next_more : length s < length (o ++ under_at nodes o (length s))
  next_more = omega (arith, next, wider)

  ends_before : (p : ℕ) → p < length s → end_at nodes (o ++ under_at nodes o (length s)) s p ≤ length o
  ends_before p lt = let kept = end_kept nodes o s more g p lt in omega (arith, kept, g.within p lt)

  they_stand : (k : ℕ) → k < length (under_at nodes (o ++ under_at nodes o (length s)) (length s)) → get_or (o ++ under_at nodes o (length s)) (length o + k) 0 ≡ get_or (under_at nodes (o ++ under_at nodes o (length s)) (length s)) k 0
  they_stand k lt = get_or-append-add o (under_at nodes o (length s)) k 0 ∙ ap (λ (cs : List ℕ). get_or cs k 0) (sym same_under)

  grown_both : IsGrown nodes (o ++ more) (s ++ length o ∷ [])
  grown_both = grown_on nodes (o ++ more) s (length o) (grown_more nodes o s more g) next_more ends_before next all_in they_stand

  notes_both : Notes (length o) (under_at nodes (o ++ under_at nodes o (length s)) (length s)) (length (under_at nodes (o ++ under_at nodes o (length s)) (length s))) met new_met
  notes_both = subst (λ (cs : List ℕ). Notes (length o) cs (length cs) met new_met) (sym same_under) notes

  met_both : AreMet nodes (o ++ more) (s ++ length o ∷ []) new_met
  met_both = met_on nodes (o ++ more) s (length o) (grown_more nodes o s more g) next_more ends_before next all_in they_stand met new_met (met_more nodes o s more g met m) notes_both

  covered_both : (q : ℕ) → IsCovered nodes o s q → IsCovered nodes (o ++ more) (s ++ length o ∷ []) q
  covered_both q c = covered_on nodes (o ++ more) s (length o) (grown_more nodes o s more g) next_more ends_before next all_in they_stand q (covered_more nodes o s more g q c)

  new_both : (q : ℕ) → length o ≤ q → q < length (o ++ more) → IsCovered nodes (o ++ more) (s ++ length o ∷ []) q
  new_both q le lt = covered_new nodes (o ++ more) s (length o) (grown_more nodes o s more g) next_more ends_before next all_in they_stand q le lt

  grows_both : (first begun : List ℕ) → GrowsFrom first begun o s → GrowsFrom first begun (o ++ more) (s ++ length o ∷ [])
  grows_both first begun h = grows_on nodes (o ++ more) s (length o) (grown_more nodes o s more g) next_more ends_before next all_in they_stand first begun (grows_more nodes o s more g first begun h)

  -- the same of the lists as they are
  pub visit_grown : IsGrown nodes new_o new_s
  visit_grown = subst (λ (l : List ℕ). IsGrown nodes l new_s) (sym origins_are) (subst (λ (l : List ℕ). IsGrown nodes (o ++ more) l) (sym starts_are) grown_both)

  pub visit_met : AreMet nodes new_o new_s new_met
  visit_met = subst (λ (l : List ℕ). AreMet nodes l new_s new_met) (sym origins_are) (subst (λ (l : List ℕ). AreMet nodes (o ++ more) l new_met) (sym starts_are) met_both)

  pub visit_grows : (first begun : List ℕ) → GrowsFrom first begun o s → GrowsFrom first begun new_o new_s
  visit_grows first begun h = subst (λ (l : List ℕ). GrowsFrom first begun l new_s) (sym origins_are) (subst (λ (l : List ℕ). GrowsFrom first begun (o ++ more) l) (sym starts_are) (grows_both first begun h))

  pub visit_longer : length new_o ≡ length o + length (under_at nodes o (length s))
  visit_longer = ap length origins_are ∙ wider

  pub visit_kept : (q : ℕ) → q < length o → get_or new_o q 0 ≡ get_or o q 0
  visit_kept q lt = ap (λ (l : List ℕ). get_or l q 0) origins_are ∙ get_or_append_left o more 0 q lt

  both_covered : (q : ℕ) → q < length (o ++ more) → (q < length o → IsCovered nodes o s q) → IsCovered nodes (o ++ more) (s ++ length o ∷ []) q
  both_covered q lt old = elim (below_or q (length o)) [
    | inl less ↦ covered_both q (old less)
    | inr le ↦ new_both q le lt
  ]

  pub visit_covered : (q : ℕ) → q < length new_o → (q < length o → IsCovered nodes o s q) → IsCovered nodes new_o new_s q
  visit_covered q lt old =
      subst (λ (l : List ℕ). IsCovered nodes l new_s q) (sym origins_are) (subst (λ (l : List ℕ). IsCovered nodes (o ++ more) l q) (sym starts_are) (both_covered q (subst (λ (l : List ℕ). q < length l) origins_are lt) old))
