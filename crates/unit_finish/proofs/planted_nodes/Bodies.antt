-- The places of bodies, one after another.
use Rattle.std.proofs.Common.{arith, ◌≡◌, ◌∙◌, ℕ, zero, suc, ◌+◌, ◌<◌, ◌≤◌, ◌⊎◌, inl, inr, List, [], ◌∷◌, ◌++◌, length, length-append, get_or, slice_get, Option, Some, None, refl, sym, ap, subst}
use Rattle.std.proofs.lemmas.List.{get_or_append_left, get_or_at}
use Rattle.std.proofs.lemmas.Option.{slice_get_within}
use Rattle.core_tree.specs.declared.node.Node.{Node}
use Rattle.core_tree.specs.declared.node.Storage.{Storage}
use Rattle.core_tree.specs.declared.node.Storage.TheVariants.{FunctionBody}
use Rattle.unit_finish.specs.declared.unit_parts.declared.Declared.{Declared}
use Rattle.unit_finish.specs.planted_nodes.Grown.{children_of, under_at, end_at, IsGrown, IsCovered, IsWhole, GrowsFrom}
use Rattle.unit_finish.specs.planted_nodes.Placed.{IsPlacedAt, Places, ArePlaced}
use Rattle.unit_finish.proofs.planted_nodes.Positions.{none_grows, below_or, lt_or_same}

-- what is a child stays one, and so does what is none
module _ (nodes : List Node) (o s new_o new_s : List ℕ) (met : List (Option ℕ)) (w : IsWhole nodes o s met) (h : GrowsFrom o s new_o new_s) where
  same_under : (p : ℕ) → p < length s → under_at nodes new_o p ≡ under_at nodes o p
  same_under p lt = ap (children_of nodes) (h.origins p (omega (arith, lt, w.grown.few)))

  pub same_end : (p : ℕ) → p < length s → end_at nodes new_o new_s p ≡ end_at nodes o s p
  same_end p lt = ap (λ (m : ℕ). m + length (under_at nodes new_o p)) (h.starts p lt) ∙ ap (λ (cs : List ℕ). get_or s p 0 + length cs) (same_under p lt)

  pub covered_grows : (q : ℕ) → IsCovered nodes o s q → IsCovered nodes new_o new_s q
  covered_grows q c = record {
    parent = c.parent;
    place = c.place;
    before = omega (arith, c.before, h.further);
    few = subst (λ (cs : List ℕ). c.place < length cs) (sym (same_under c.parent c.before)) c.few;
    here = ap (λ (m : ℕ). m + c.place) (h.starts c.parent c.before) ∙ c.here;
  }

  pub uncovered_grows : IsGrown nodes new_o new_s → (q : ℕ) → q < length o → IsCovered nodes new_o new_s q → IsCovered nodes o s q
  uncovered_grows g q lt c = elim (below_or c.parent (length s)) [
    | inl less ↦ record {
      parent = c.parent;
      place = c.place;
      before = less;
      few = subst (λ (cs : List ℕ). c.place < length cs) (same_under c.parent less) c.few;
      here = ap (λ (m : ℕ). m + c.place) (sym (h.starts c.parent less)) ∙ c.here;
    }
    | inr le ↦ absurd (omega (arith, le, lt, w.done, g.later c.parent c.before, c.here))
  ]

  -- the next position is no child's
  pub root_uncovered : IsGrown nodes new_o new_s → IsCovered nodes new_o new_s (length o) → ⊥
  root_uncovered g c = elim (below_or c.parent (length s)) [
    | inl less ↦
        let start = h.starts c.parent less in
        let few : c.place < length (under_at nodes o c.parent) = subst (λ (cs : List ℕ). c.place < length cs) (same_under c.parent less) c.few in
        let inside = w.grown.within c.parent less in omega (arith, start, few, inside, c.here)
    | inr le ↦ omega (arith, le, w.done, g.later c.parent c.before, c.here)
  ]

-- one body has its place
module _ (nodes : List Node) (o s : List ℕ) (met : List (Option ℕ)) (w : IsWhole nodes o s met) (storage : Storage) where
  pub places_none : Places nodes o s o s met storage None None
  places_none = record {
    whole = w;
    grows = none_grows o s;
    placed = tt;
    fresh = λ q le lt. absurd (omega (arith, le, lt));
    again = λ c e. cc;
    first = λ c e. cc;
    late = λ other c e. cc;
  }

  pub places_met : (body at : ℕ) → get_or met body None ≡ Some at → (storage ≡ FunctionBody → ⊥) → Places nodes o s o s met storage (Some body) (Some at)
  places_met body at e not = record {
    whole = w;
    grows = none_grows o s;
    placed = (w.are_met.within body at e, w.are_met.origin body at e, λ f. absurd (not f));
    fresh = λ q le lt. absurd (omega (arith, le, lt));
    again = λ c is lt. (let same : at ≡ c = cc in subst (IsCovered nodes o s) same (w.are_met.covered body at e));
    first = λ c is le. (let same : at ≡ c = cc in absurd (omega (arith, le, same, w.are_met.within body at e)));
    late = λ other c is le. (let same : at ≡ c = cc in absurd (omega (arith, le, same, w.are_met.within body at e)));
  }

  pub places_root : (new_o new_s : List ℕ) (new_met : List (Option ℕ)) (body at : ℕ) → at ≡ length o → IsWhole nodes new_o new_s new_met → GrowsFrom o s new_o new_s → get_or new_o (length o) 0 ≡ body → length o < length new_o
      → ((q : ℕ) → length o < q → q < length new_o → IsCovered nodes new_o new_s q) → ((storage ≡ FunctionBody → ⊥) → get_or met body None ≡ None)
      → Places nodes o s new_o new_s new_met storage (Some body) (Some at)
  places_root new_o new_s new_met body at e whole grows root within covered unmet = record {
    whole = whole;
    grows = grows;
    placed =
        subst (λ (i : ℕ). (i < length new_o) × (get_or new_o i 0 ≡ body) × (storage ≡ FunctionBody → IsCovered nodes new_o new_s i → ⊥)) (sym e)
        (within, root, λ f c. root_uncovered nodes o s new_o new_s met w grows whole.grown c);
    fresh = λ q le lt. elim (lt_or_same (length o) q (omega (arith, le))) [
      | inl less ↦ inl (covered q less lt)
      | inr same ↦ inr (ap Some (e ∙ same))
    ];
    again = λ c is lt. (let same : at ≡ c = cc in absurd (omega (arith, e, same, lt)));
    first = λ c is le. (let same : at ≡ c = cc in sym same ∙ e);
    late = λ other c is le few q d same.
        (let one : at ≡ c = cc in
        let there : get_or new_o c 0 ≡ body = ap (λ (i : ℕ). get_or new_o i 0) (sym one ∙ e) ∙ root in
        let met_there = w.are_met.all q d (omega (arith, few, same)) in
        let some : get_or met body None ≡ Some met_there.0 = ap (λ (i : ℕ). get_or met i None) (sym (same ∙ there)) ∙ met_there.1 in
        let none = unmet other in cc);
  }

-- a place that is there
pub place_some : (nodes : List Node) (o s : List ℕ) (storage : Storage) (body place : Option ℕ) (c : ℕ) → IsPlacedAt nodes o s storage body place → place ≡ Some c → (c < length o) × (storage ≡ FunctionBody → IsCovered nodes o s c → ⊥)
place_some nodes o s storage None None c h e = cc
place_some nodes o s storage None (Some d) c h e = absurd h
place_some nodes o s storage (Some b) None c h e = absurd h
place_some nodes o s storage (Some b) (Some d) c h e =
    let same : d ≡ c = cc in
    subst (λ (i : ℕ). (i < length o) × (storage ≡ FunctionBody → IsCovered nodes o s i → ⊥)) same (h.0, h.2)

pub item_there : {A : Type 0} (xs : List A) (i : ℕ) → i < length xs → (x : A) × (slice_get xs i ≡ Some x)
item_there [] i lt = absurd (omega arith)
item_there (x ∷ xs) zero lt = (x, refl)
item_there (x ∷ xs) (suc i) lt = item_there xs i (omega arith)

pub none_placed : (nodes : List Node) (list : List Declared) (o s : List ℕ) → length o ≡ 0 → ArePlaced nodes list 0 [] o s
none_placed nodes list o s e = record {
  long = refl;
  each = λ i x lt. absurd (omega (arith, lt));
  alone = λ d i c x lt. absurd (omega (arith, lt));
  late = λ i c x lt. absurd (omega (arith, lt));
  earlier = λ j k a b less lt. absurd (omega (arith, lt));
  closed = λ k b lt. absurd (omega (arith, lt));
  all = λ q lt. absurd (omega (arith, e, lt));
}

-- one more of what is declared
module _ (nodes : List Node) (list : List Declared) (n : ℕ) (bodies : List (Option ℕ)) (o s new_o new_s : List ℕ) (met new_met : List (Option ℕ)) (x : Declared) (place : Option ℕ) (at : slice_get list n ≡ Some x) (w : IsWhole nodes o s met) (are : ArePlaced nodes list n bodies o s) (p : Places nodes o s new_o new_s new_met x.storage x.body place) where
  kept : (i : ℕ) → i < n → get_or (bodies ++ place ∷ []) i None ≡ get_or bodies i None
  kept i lt = get_or_append_left bodies (place ∷ []) None i (omega (arith, lt, are.long))

  last : get_or (bodies ++ place ∷ []) n None ≡ place
  last = get_or_at bodies place [] None n are.long

  stays : (storage : Storage) (b c : Option ℕ) → IsPlacedAt nodes o s storage b c → IsPlacedAt nodes new_o new_s storage b c
  stays storage None None h = tt
  stays storage None (Some c) h = absurd h
  stays storage (Some b) None h = absurd h
  stays storage (Some b) (Some c) h = (
    omega (arith, h.0, p.grows.more),
    p.grows.origins c h.0 ∙ h.1,
    λ f d. h.2 f (uncovered_grows nodes o s new_o new_s met w p.grows p.whole.grown c h.0 d),
  )

  each_more : (e : ℕ) (y : Declared) → e < n + 1 → slice_get list e ≡ Some y → IsPlacedAt nodes new_o new_s y.storage y.body (get_or (bodies ++ place ∷ []) e None)
  each_more e y lt there = elim (lt_or_same e n lt) [
    | inl less ↦ subst (IsPlacedAt nodes new_o new_s y.storage y.body) (sym (kept e less)) (stays y.storage y.body (get_or bodies e None) (are.each e y less there))
    | inr same ↦
        let both : Some y ≡ Some x = sym there ∙ (ap (slice_get list) same ∙ at) in
        let is : y ≡ x = cc in
        let read : get_or (bodies ++ place ∷ []) e None ≡ place = ap (λ (i : ℕ). get_or (bodies ++ place ∷ []) i None) same ∙ last in
        subst (IsPlacedAt nodes new_o new_s y.storage y.body) (sym read) (subst (λ (z : Declared). IsPlacedAt nodes new_o new_s z.storage z.body place) (sym is) p.placed)
  ]

  -- a place before isn't new, and a function's is no child's
  before : (e c : ℕ) → e < n → get_or bodies e None ≡ Some c → c < length o
  before e c lt h =
      let y = item_there list e (omega (arith, lt, slice_get_within list n x at)) in
      let placed = place_some nodes o s y.0.storage y.0.body (get_or bodies e None) c (are.each e y.0 lt y.1) h in placed.0

  alone_more : (d e c : ℕ) (y : Declared) → d < n + 1 → e < n + 1 → slice_get list d ≡ Some y → y.storage ≡ FunctionBody → get_or (bodies ++ place ∷ []) d None ≡ Some c → get_or (bodies ++ place ∷ []) e None ≡ Some c → d ≡ e
  alone_more d e c y few less there f hd he = elim (lt_or_same d n few) [
    | inl first ↦
        let was : get_or bodies d None ≡ Some c = sym (kept d first) ∙ hd in
        elim (lt_or_same e n less) [
          | inl second ↦ are.alone d e c y first second there f was (sym (kept e second) ∙ he)
          | inr same ↦
              let is : place ≡ Some c = sym last ∙ (ap (λ (i : ℕ). get_or (bodies ++ place ∷ []) i None) (sym same) ∙ he) in
              let placed = place_some nodes o s y.storage y.body (get_or bodies d None) c (are.each d y first there) was in
              absurd (placed.1 f (p.again c is placed.0))
        ]
    | inr same ↦
        let both : Some y ≡ Some x = sym there ∙ (ap (slice_get list) same ∙ at) in
        let is_item : y ≡ x = cc in
        let is : place ≡ Some c = sym last ∙ (ap (λ (i : ℕ). get_or (bodies ++ place ∷ []) i None) (sym same) ∙ hd) in
        elim (lt_or_same e n less) [
          | inl second ↦
              let lt = before e c second (sym (kept e second) ∙ he) in
              let placed = place_some nodes new_o new_s x.storage x.body place c p.placed is in
              absurd (placed.1 (subst (λ (z : Declared). z.storage ≡ FunctionBody) is_item f) (covered_grows nodes o s new_o new_s met w p.grows c (p.again c is lt)))
          | inr other ↦ same ∙ sym other
        ]
  ]

  -- a body that is new was nowhere a child before
  late_kept : (e c : ℕ) (y : Declared) → e < n → slice_get list e ≡ Some y → (y.storage ≡ FunctionBody → ⊥) → get_or bodies e None ≡ Some c → (IsCovered nodes new_o new_s c → ⊥)
      → get_or new_o c 0 < length nodes → (q : ℕ) → q < c → IsCovered nodes new_o new_s q → get_or new_o q 0 ≡ get_or new_o c 0 → ⊥
  late_kept e c y lt there other is free few q less d same =
      let inside = before e c lt is in
      let small : q < length o = omega (arith, less, inside) in
      let was = uncovered_grows nodes o s new_o new_s met w p.grows p.whole.grown q small d in
      let here = p.grows.origins c inside in
      are.late e c y lt there other is (λ k. free (covered_grows nodes o s new_o new_s met w p.grows c k)) (omega (arith, few, here)) q less was (sym (p.grows.origins q small) ∙ (same ∙ here))

  late_new : (c : ℕ) → (x.storage ≡ FunctionBody → ⊥) → place ≡ Some c → (IsCovered nodes new_o new_s c → ⊥) → get_or new_o c 0 < length nodes → (q : ℕ) → q < c → IsCovered nodes new_o new_s q
      → get_or new_o q 0 ≡ get_or new_o c 0 → ⊥
  late_new c other is free few q less d same = elim (below_or c (length o)) [
    | inl inside ↦ free (covered_grows nodes o s new_o new_s met w p.grows c (p.again c is inside))
    | inr le ↦
        let first = p.first c is le in
        let small : q < length o = omega (arith, less, first) in
        let was = uncovered_grows nodes o s new_o new_s met w p.grows p.whole.grown q small d in
        p.late other c is le few q was (sym (p.grows.origins q small) ∙ same)
  ]

  late_more : (e c : ℕ) (y : Declared) → e < n + 1 → slice_get list e ≡ Some y → (y.storage ≡ FunctionBody → ⊥) → get_or (bodies ++ place ∷ []) e None ≡ Some c → (IsCovered nodes new_o new_s c → ⊥)
      → get_or new_o c 0 < length nodes → (q : ℕ) → q < c → IsCovered nodes new_o new_s q → get_or new_o q 0 ≡ get_or new_o c 0 → ⊥
  late_more e c y lt there other is free few q less d same = elim (lt_or_same e n lt) [
    | inl early ↦ late_kept e c y early there other (sym (kept e early) ∙ is) free few q less d same
    | inr at_last ↦
        let both : Some y ≡ Some x = sym there ∙ (ap (slice_get list) at_last ∙ at) in
        let item : y ≡ x = cc in
        let here : place ≡ Some c = sym last ∙ (ap (λ (i : ℕ). get_or (bodies ++ place ∷ []) i None) (sym at_last) ∙ is) in
        late_new c (λ f. other (subst (λ (z : Declared). z.storage ≡ FunctionBody) (sym item) f)) here free few q less d same
  ]

  -- one that is no child is behind all that stood there
  behind : (b : ℕ) → place ≡ Some b → (IsCovered nodes new_o new_s b → ⊥) → b ≡ length o
  behind b is free = elim (below_or b (length o)) [
    | inl inside ↦ absurd (free (covered_grows nodes o s new_o new_s met w p.grows b (p.again b is inside)))
    | inr le ↦ p.first b is le
  ]

  earlier_more : (j k a b : ℕ) → j < k → k < n + 1 → get_or (bodies ++ place ∷ []) j None ≡ Some a → get_or (bodies ++ place ∷ []) k None ≡ Some b → (IsCovered nodes new_o new_s b → ⊥) → a < b
  earlier_more j k a b less lt hj hk free =
      let first : j < n = omega (arith, less, lt) in
      let was : get_or bodies j None ≡ Some a = sym (kept j first) ∙ hj in
      elim (lt_or_same k n lt) [
        | inl second ↦ are.earlier j k a b less second was (sym (kept k second) ∙ hk) (λ c. free (covered_grows nodes o s new_o new_s met w p.grows b c))
        | inr same ↦
            let is : place ≡ Some b = sym last ∙ (ap (λ (i : ℕ). get_or (bodies ++ place ∷ []) i None) (sym same) ∙ hk) in
            let end = behind b is free in
            let inside = before j a first was in
            omega (arith, end, inside)
      ]

  closed_more : (k b : ℕ) → k < n + 1 → get_or (bodies ++ place ∷ []) k None ≡ Some b → (IsCovered nodes new_o new_s b → ⊥) → (q : ℕ) → q < b → end_at nodes new_o new_s q ≤ b
  closed_more k b lt hk free q less = elim (lt_or_same k n lt) [
    | inl second ↦
        let was : get_or bodies k None ≡ Some b = sym (kept k second) ∙ hk in
        let inside = before k b second was in
        let same = same_end nodes o s new_o new_s met w p.grows q (omega (arith, less, inside, w.done)) in
        let old = are.closed k b second was (λ c. free (covered_grows nodes o s new_o new_s met w p.grows b c)) q less in
        omega (arith, same, old)
    | inr at_last ↦
        let is : place ≡ Some b = sym last ∙ (ap (λ (i : ℕ). get_or (bodies ++ place ∷ []) i None) (sym at_last) ∙ hk) in
        let end = behind b is free in
        let few : q < length s = omega (arith, less, end, w.done) in
        let same = same_end nodes o s new_o new_s met w p.grows q few in
        let within = w.grown.within q few in
        omega (arith, same, within, end)
  ]

  all_more : (q : ℕ) → q < length new_o → IsCovered nodes new_o new_s q ⊎ ((e : ℕ) × (e < n + 1) × (get_or (bodies ++ place ∷ []) e None ≡ Some q))
  all_more q lt = elim (below_or q (length o)) [
    | inl less ↦ elim (are.all q less) [
      | inl c ↦ inl (covered_grows nodes o s new_o new_s met w p.grows q c)
      | inr e ↦ inr (e.0, omega (arith, e.1), kept e.0 e.1 ∙ e.2)
    ]
    | inr le ↦ elim (p.fresh q le lt) [
      | inl c ↦ inl c
      | inr e ↦ inr (n, omega arith, last ∙ e)
    ]
  ]

  pub one_placed : ArePlaced nodes list (n + 1) (bodies ++ place ∷ []) new_o new_s
  one_placed = record {
    long = length-append bodies (place ∷ []) ∙ omega (arith, are.long);
    each = each_more;
    alone = alone_more;
    late = late_more;
    earlier = earlier_more;
    closed = closed_more;
    all = all_more;
  }
