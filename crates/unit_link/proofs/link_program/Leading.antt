-- The first things that are alike, thing by thing.
use Rattle.std.proofs.Common.{◌≡◌, ◌≢◌, ℕ, ◌+◌, ◌<◌, ◌≤◌, ◌⊎◌, Bool, true, false, cond, Option, Some, None, List, [], ◌∷◌, ◌++◌, length, get_or, below_more, refl, sym, ap, subst, ◌∙◌, arith, inl, inr}
use Rattle.std.specs.List.{slice_get}
use Rattle.std.specs.Str.{bytes_eq}
use Rattle.std.specs.Cmp.Lexicographic.{bytes_decides, nat_list_eq_equiv}
use Rattle.std.proofs.lemmas.Bool.{cases_Bool, cases_lt, false≢true}
use Rattle.std.proofs.lemmas.Option.{slice_get_within}
use Rattle.std.proofs.Math.Seq.{get_or-append_seam}
use Rattle.std.proofs.Math.ListN.{get_or-append}
use Rattle.link_names.specs.Firsts.{first_or, known_after}
use Rattle.link_model.specs.link_types.Leaders.{AreLeaders}
use Rattle.unit_link.specs.link_program.Alike.{ShareLabel, Alike, IsLeader, AreAlike, IsFirstLabel, KnowsLabels, first_labelled, known_with}

abbrev Labels : Type 0
Labels = List (Option (List ℕ))

one_label : {a b : List ℕ} → ◌≡◌ {A = Option (Option (List ℕ))} (Some (Some a)) (Some (Some b)) → a ≡ b
one_label h = cc

no_label : {a : List ℕ} → ◌≡◌ {A = Option (Option (List ℕ))} (Some None) (Some (Some a)) → ⊥
no_label h = cc

some_one : {a b : ℕ} → ◌≡◌ {A = Option ℕ} (Some a) (Some b) → a ≡ b
some_one h = cc

some_none : {a : ℕ} → ◌≡◌ {A = Option ℕ} (Some a) None → ⊥
some_none h = cc

pub alike_turned : (labels : Labels) (i j : ℕ) → Alike labels i j → Alike labels j i
alike_turned labels i j (inl e) = inl (sym e)
alike_turned labels i j (inr s) = inr (record { label = s.label; first = s.second; second = s.first })

pub alike_through : (labels : Labels) (i j k : ℕ) → Alike labels i j → Alike labels j k → Alike labels i k
alike_through labels i j k (inl e) h = subst (λ n. Alike labels n k) (sym e) h
alike_through labels i j k (inr s) (inl e) = subst (λ n. Alike labels i n) e (inr s)
alike_through labels i j k (inr s) (inr t) =
    let one : s.label ≡ t.label = one_label (sym s.second ∙ t.first) in
    inr (record { label = s.label; first = s.first; second = t.second ∙ ap (λ l. Some (Some l)) (sym one) })

-- the leaders of things that are alike lead themselves
pub alike_leaders : (labels : Labels) (leaders : List ℕ) → AreAlike labels leaders → AreLeaders leaders
alike_leaders labels leaders are = record {
  below = λ k l. (are.each k (let a = are.all in omega arith)).first k (inl refl);
  itself = λ k l.
      let a = are.all in
      let here = are.each k (omega arith) in
      let below = here.first k (inl refl) in
      let up = are.each (get_or leaders k 0) (omega arith) in
      let low = up.first (get_or leaders k 0) (inl refl) in
      let back = here.first (get_or leaders (get_or leaders k 0) 0) (alike_turned labels k (get_or leaders (get_or leaders k 0) 0) (alike_through labels k (get_or leaders k 0) (get_or leaders (get_or leaders k 0) 0) here.alike up.alike)) in
      omega arith;
}

-- things that are alike have one leader, and only they
pub one_if_alike : (labels : Labels) (leaders : List ℕ) → AreAlike labels leaders → (i j : ℕ) → i < length labels → j < length labels → Alike labels i j → get_or leaders i 0 ≡ get_or leaders j 0
one_if_alike labels leaders are i j li lj h =
    let a = are.each i li in
    let b = are.each j lj in
    let down = a.first (get_or leaders j 0) (alike_turned labels i (get_or leaders j 0) (alike_through labels i j (get_or leaders j 0) h b.alike)) in
    let up = b.first (get_or leaders i 0) (alike_turned labels j (get_or leaders i 0) (alike_through labels j i (get_or leaders i 0) (alike_turned labels i j h) a.alike)) in
    omega arith

pub alike_if_one : (labels : Labels) (leaders : List ℕ) → AreAlike labels leaders → (i j : ℕ) → i < length labels → j < length labels → get_or leaders i 0 ≡ get_or leaders j 0 → Alike labels i j
alike_if_one labels leaders are i j li lj e =
    let a = (are.each i li).alike in
    let b = (are.each j lj).alike in
    alike_through labels i (get_or leaders i 0) j a (alike_turned labels j (get_or leaders i 0) (subst (λ n. Alike labels j n) (sym e) b))

-- the first thing with the label of the next one
first_of_known : (labels : Labels) (i : ℕ) (l : List ℕ) (o : Option ℕ) → ((first : ℕ) → o ≡ Some first → IsFirstLabel labels i l first)
    → ((j : ℕ) → o ≡ None → j < i → slice_get labels j ≡ Some (Some l) → ⊥) → slice_get labels i ≡ Some (Some l) → IsFirstLabel labels (i + 1) l (first_or o i)
first_of_known labels i l (Some f) found none at =
    let h = found f refl in
    record { within = (let w = h.within in omega arith); labelled = h.labelled; least = h.least }
first_of_known labels i l None found none at = record {
  within = omega arith;
  labelled = at;
  least = λ j there. elim (cases_lt j i) [
    | inl lt ↦ absurd (none j refl lt there)
    | inr ge ↦ ge
  ];
}

first_later : (labels : Labels) (i : ℕ) (l : List ℕ) (f : ℕ) → IsFirstLabel labels i l f → IsFirstLabel labels (i + 1) l f
first_later labels i l f h = record { within = (let w = h.within in omega arith); labelled = h.labelled; least = h.least }

-- the leader of the next thing
pub leader_next : (labels : Labels) (i : ℕ) (known : List ℕ → Option ℕ) (o : Option (List ℕ)) (r : ℕ) → KnowsLabels labels i known → slice_get labels i ≡ Some o → r ≡ first_labelled known o i → IsLeader labels i r
leader_next labels i known None r h at e =
    subst (IsLeader labels i) (sym e) (record {
      alike = inl refl;
      first = λ j alike. elim alike [
        | inl same ↦ (omega arith)
        | inr s ↦ absurd (no_label (sym at ∙ s.second))
      ];
    })
leader_next labels i known (Some l) r h at e =
    let f = first_of_known labels i l (known l) (λ f k. h.found l f k) (λ j k. h.none l j k) at in
    subst (IsLeader labels i) (sym e) (record {
      alike = inr (record { label = l; first = at; second = f.labelled });
      first = λ j alike. elim alike [
        | inl same ↦ f.least j (ap (slice_get labels) same ∙ at)
        | inr s ↦
            let one : s.label ≡ l = one_label (sym s.second ∙ at) in
            f.least j (s.first ∙ ap (λ x. Some (Some x)) one)
      ];
    })

after_own : (known : List ℕ → Option ℕ) (l : List ℕ) (i : ℕ) (other : List ℕ) → bytes_eq l other ≡ true → known_after known l i other ≡ Some (first_or (known l) i)
after_own known l i other e = ap (λ b. cond b (Some (first_or (known l) i)) (known other)) e

after_other : (known : List ℕ → Option ℕ) (l : List ℕ) (i : ℕ) (other : List ℕ) → bytes_eq l other ≡ false → known_after known l i other ≡ known other
after_other known l i other e = ap (λ b. cond b (Some (first_or (known l) i)) (known other)) e

-- what is known with one thing more
pub knows_more : (labels : Labels) (i : ℕ) (known now : List ℕ → Option ℕ) (o : Option (List ℕ)) → KnowsLabels labels i known → slice_get labels i ≡ Some o
    → ((other : List ℕ) → now other ≡ known_with known o i other) → KnowsLabels labels (i + 1) now
knows_more labels i known now None h at g = record {
  found = λ l f e. first_later labels i l f (h.found l f (sym (g l) ∙ e));
  none = λ l j e lt there. elim (cases_lt j i) [
    | inl less ↦ h.none l j (sym (g l) ∙ e) less there
    | inr ge ↦
        let same : j ≡ i = omega arith in
        no_label (sym at ∙ (ap (slice_get labels) (sym same) ∙ there))
  ];
}
knows_more labels i known now (Some own) h at g = record {
  found = λ l f e. elim (cases_Bool (bytes_eq own l)) [
    | inl its ↦
        let one : own ≡ l = (bytes_decides own l).0 its in
        let first = first_of_known labels i own (known own) (λ n k. h.found own n k) (λ j k. h.none own j k) at in
        let same : first_or (known own) i ≡ f = some_one (sym (after_own known own i l its) ∙ (sym (g l) ∙ e)) in
        subst (λ n. IsFirstLabel labels (i + 1) l n) same (subst (λ n. IsFirstLabel labels (i + 1) n (first_or (known own) i)) one first)
    | inr other ↦ first_later labels i l f (h.found l f (sym (after_other known own i l other) ∙ (sym (g l) ∙ e)))
  ];
  none = λ l j e lt there. elim (cases_Bool (bytes_eq own l)) [
    | inl its ↦ some_none (sym (after_own known own i l its) ∙ (sym (g l) ∙ e))
    | inr other ↦ elim (cases_lt j i) [
      | inl less ↦ h.none l j (sym (after_other known own i l other) ∙ (sym (g l) ∙ e)) less there
      | inr ge ↦
          let same : j ≡ i = omega arith in
          let one : own ≡ l = one_label (sym at ∙ (ap (slice_get labels) (sym same) ∙ there)) in
          false≢true (sym other ∙ (ap (bytes_eq own) (sym one) ∙ nat_list_eq_equiv.refl own))
    ]
  ];
}

-- one leader more
pub led_more : (labels : Labels) (xs : List ℕ) (x i : ℕ) → length xs ≡ i → ((k : ℕ) → k < i → IsLeader labels k (get_or xs k 0)) → IsLeader labels i x → (k : ℕ) → k < i + 1 → IsLeader labels k (get_or (xs ++ x ∷ []) k 0)
led_more labels xs x i e h g =
    below_more (λ k. IsLeader labels k (get_or (xs ++ x ∷ []) k 0)) i
    (λ k l. subst (IsLeader labels k) (sym (get_or-append xs (x ∷ []) 0 k (omega arith))) (h k l))
    (subst (λ n. IsLeader labels i n) (sym (subst (λ n. get_or (xs ++ x ∷ []) n 0 ≡ x) e (get_or-append_seam xs x [] 0))) g)
