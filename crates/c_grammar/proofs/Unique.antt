-- A production reads in one way.
use Rattle.std.proofs.Common.{◌≡◌, ℕ, ◌+◌, ◌<◌, ◌≤◌, true, false, ◌⊎◌, inl, inr, Option, Some, None, Result, Ok, Err, List, refl, sym, ap, ◌∙◌, subst, arith}
use Rattle.c_lexer.specs.declared.Token.{Token}
use Rattle.c_grammar.specs.declared.rows.Item.{Item}
use Rattle.c_grammar.specs.declared.rows.Item.TheVariants as item
use Rattle.c_grammar.specs.Table.{item_of}
use Rattle.pta_base.specs.declared.kind.Kind.{Kind}
use Rattle.c_grammar.specs.Terminals.{takes}
use Rattle.c_grammar.specs.Refusals.{refusal}
use Rattle.c_grammar.specs.Tree.{nests}
use Rattle.c_grammar.specs.Reads.{State, Fault, too_deep, unsupported, first, second, fits_at, chosen_at, misfit, taken, scoped, opened, closed, most_nested, Walks, Opens, at_end, token, no_token, use_of, no_use, choice, no_choice, no_alternative, again, no_again, scope, enough, deep, refused, whole, broken}

module _ (text : List ℕ) (tokens : List Token) where
  -- what a production that is read from an item gives, and how reading goes on
  abbrev Through : ℕ → ℕ → ℕ → ℕ → State → Result State Fault → Type 0
  Through q p at d s r = ((t : State) × Opens text tokens q d s (Ok t) × Walks text tokens p at d t r) ⊎ ((f : Fault) × Opens text tokens q d s (Err f) × (r ≡ Err f))

  -- what a reading is by the item that it stands at
  abbrev View : Option Item → ℕ → ℕ → ℕ → State → Result State Fault → Type 0
  View None p at d s r = r ≡ Ok s
  View (Some (item.Token k)) p at d s r = ((takes p k (first text tokens s) ≡ true) × Walks text tokens p (at + 1) d (taken text tokens p s) r)
      ⊎ ((takes p k (first text tokens s) ≡ false) × (r ≡ Err (misfit text tokens s)))
  View (Some (item.Use q)) p at d s r = Through q p (at + 1) d s r
  View (Some (item.Choice a b)) p at d s r = ((q : ℕ) × (chosen_at text tokens a b s ≡ Some q) × Through q p (at + 1) d s r) ⊎ ((chosen_at text tokens a b s ≡ None) × (r ≡ Err (misfit text tokens s)))
  View (Some (item.Repeat q)) p at d s r = ((fits_at text tokens q s ≡ true) × Through q p at d s r) ⊎ ((fits_at text tokens q s ≡ false) × Walks text tokens p (at + 1) d s r)
  View (Some (item.Scope n)) p at d s r = Walks text tokens p (at + 1) d (scoped text tokens p n s) r

  at_item : (o : Option Item) (p at d : ℕ) (s : State) (r : Result State Fault) → item_of p at ≡ o → View o p at d s r → View (item_of p at) p at d s r
  at_item o p at d s r e v = subst (λ x. View x p at d s r) (sym e) v

  from_item : (o : Option Item) (p at d : ℕ) (s : State) (r : Result State Fault) → item_of p at ≡ o → View (item_of p at) p at d s r → View o p at d s r
  from_item o p at d s r e v = subst (λ x. View x p at d s r) e v

  view : (p at d : ℕ) (s : State) (r : Result State Fault) → Walks text tokens p at d s r → View (item_of p at) p at d s r
  view p at d s r (at_end h) = at_item _ p at d s r h refl
  view p at d s r (token h t w) = at_item _ p at d s r h (inl (t, w))
  view p at d s r (no_token h t) = at_item _ p at d s r h (inr (t, refl))
  view p at d s r (use_of h o w) = at_item _ p at d s r h (inl (_, o, w))
  view p at d s r (no_use h o) = at_item _ p at d s r h (inr (_, o, refl))
  view p at d s r (choice h c o w) = at_item _ p at d s r h (inl (_, c, inl (_, o, w)))
  view p at d s r (no_choice h c o) = at_item _ p at d s r h (inl (_, c, inr (_, o, refl)))
  view p at d s r (no_alternative h c) = at_item _ p at d s r h (inr (c, refl))
  view p at d s r (again h f o w) = at_item _ p at d s r h (inl (f, inl (_, o, w)))
  view p at d s r (no_again h f o) = at_item _ p at d s r h (inl (f, inr (_, o, refl)))
  view p at d s r (scope h w) = at_item _ p at d s r h w
  view p at d s r (enough h f w) = at_item _ p at d s r h (inr (f, w))

  abbrev Opened : ℕ → ℕ → State → Result State Fault → Type 0
  Opened q d s r = ((most_nested < d + nests q) × (r ≡ Err (too_deep s.place)))
      ⊎ ((d + nests q ≤ most_nested) × (((kind : Kind) × (refusal q (first text tokens s) (second text tokens s) ≡ Some kind) × (r ≡ Err (unsupported kind s.place)))
      ⊎ ((refusal q (first text tokens s) (second text tokens s) ≡ None) × (((t : State) × Walks text tokens q 0 (d + nests q) (opened q s) (Ok t) × (r ≡ Ok (closed q s t)))
      ⊎ ((f : Fault) × Walks text tokens q 0 (d + nests q) (opened q s) (Err f) × (r ≡ Err f))))))

  open_view : (q d : ℕ) (s : State) (r : Result State Fault) → Opens text tokens q d s r → Opened q d s r
  open_view q d s r (deep h) = inl (h, refl)
  open_view q d s r (refused h e) = inr (h, inl (_, e, refl))
  open_view q d s r (whole h e w) = inr (h, inr (e, inl (_, w, refl)))
  open_view q d s r (broken h e w) = inr (h, inr (e, inr (_, w, refl)))

  mutual
    pub walks_one : (p at d : ℕ) (s : State) (r : Result State Fault) → Walks text tokens p at d s r → (r' : Result State Fault) → Walks text tokens p at d s r' → r ≡ r'
    walks_one p at d s r (at_end h) r' v = sym (from_item _ p at d s r' h (view p at d s r' v))
    walks_one p at d s r (token h t w) r' v =
        elim (from_item _ p at d s r' h (view p at d s r' v)) [ inl x ↦ walks_one p (at + 1) d _ r w r' x.1 | inr x ↦ absurd (cc) ]
    walks_one p at d s r (no_token h t) r' v =
        elim (from_item _ p at d s r' h (view p at d s r' v)) [ inl x ↦ absurd (cc) | inr x ↦ sym x.1 ]
    walks_one p at d s r (use_of {q = q} {t = t} h o w) r' v =
        elim (from_item _ p at d s r' h (view p at d s r' v)) [
          | inl x ↦
              let f : ◌≡◌ {A = Result State Fault} (Ok t) (Ok x.0) = opens_one q d s (Ok t) o (Ok x.0) x.1 in
              let e : t ≡ x.0 = cc in
              walks_one p (at + 1) d t r w r' (subst (λ y. Walks text tokens p (at + 1) d y r') (sym e) x.2)
          | inr x ↦ absurd (let f : ◌≡◌ {A = Result State Fault} (Ok t) (Err x.0) = opens_one q d s (Ok t) o (Err x.0) x.1 in cc)
        ]
    walks_one p at d s r (no_use {q = q} {f = f} h o) r' v =
        elim (from_item _ p at d s r' h (view p at d s r' v)) [
          | inl x ↦ absurd (let e : ◌≡◌ {A = Result State Fault} (Err f) (Ok x.0) = opens_one q d s (Err f) o (Ok x.0) x.1 in cc)
          | inr x ↦ let e : ◌≡◌ {A = Result State Fault} (Err f) (Err x.0) = opens_one q d s (Err f) o (Err x.0) x.1 in e ∙ sym x.2
        ]
    walks_one p at d s r (choice {q = q} {t = t} h c o w) r' v =
        elim (from_item _ p at d s r' h (view p at d s r' v)) [
          | inl y ↦
              let k : ◌≡◌ {A = Option ℕ} (Some q) (Some y.0) = sym c ∙ y.1 in
              let l : q ≡ y.0 = cc in
              elim (subst (λ n. Through n p (at + 1) d s r') (sym l) y.2) [
                | inl x ↦
                    let f : ◌≡◌ {A = Result State Fault} (Ok t) (Ok x.0) = opens_one q d s (Ok t) o (Ok x.0) x.1 in
                    let e : t ≡ x.0 = cc in
                    walks_one p (at + 1) d t r w r' (subst (λ y. Walks text tokens p (at + 1) d y r') (sym e) x.2)
                | inr x ↦ absurd (let f : ◌≡◌ {A = Result State Fault} (Ok t) (Err x.0) = opens_one q d s (Ok t) o (Err x.0) x.1 in cc)
              ]
          | inr y ↦ absurd (let k : ◌≡◌ {A = Option ℕ} (Some q) None = sym c ∙ y.0 in cc)
        ]
    walks_one p at d s r (no_choice {q = q} {f = f} h c o) r' v =
        elim (from_item _ p at d s r' h (view p at d s r' v)) [
          | inl y ↦
              let k : ◌≡◌ {A = Option ℕ} (Some q) (Some y.0) = sym c ∙ y.1 in
              let l : q ≡ y.0 = cc in
              elim (subst (λ n. Through n p (at + 1) d s r') (sym l) y.2) [
                | inl x ↦ absurd (let e : ◌≡◌ {A = Result State Fault} (Err f) (Ok x.0) = opens_one q d s (Err f) o (Ok x.0) x.1 in cc)
                | inr x ↦ let e : ◌≡◌ {A = Result State Fault} (Err f) (Err x.0) = opens_one q d s (Err f) o (Err x.0) x.1 in e ∙ sym x.2
              ]
          | inr y ↦ absurd (let k : ◌≡◌ {A = Option ℕ} (Some q) None = sym c ∙ y.0 in cc)
        ]
    walks_one p at d s r (no_alternative h c) r' v =
        elim (from_item _ p at d s r' h (view p at d s r' v)) [
          | inl y ↦ absurd (let k : ◌≡◌ {A = Option ℕ} None (Some y.0) = sym c ∙ y.1 in cc)
          | inr y ↦ sym y.1
        ]
    walks_one p at d s r (again {q = q} {t = t} h k o w) r' v =
        elim (from_item _ p at d s r' h (view p at d s r' v)) [
          | inl y ↦ elim y.1 [
            | inl x ↦
                let f : ◌≡◌ {A = Result State Fault} (Ok t) (Ok x.0) = opens_one q d s (Ok t) o (Ok x.0) x.1 in
                let e : t ≡ x.0 = cc in
                walks_one p at d t r w r' (subst (λ y. Walks text tokens p at d y r') (sym e) x.2)
            | inr x ↦ absurd (let f : ◌≡◌ {A = Result State Fault} (Ok t) (Err x.0) = opens_one q d s (Ok t) o (Err x.0) x.1 in cc)
          ]
          | inr y ↦ absurd (cc)
        ]
    walks_one p at d s r (no_again {q = q} {f = f} h k o) r' v =
        elim (from_item _ p at d s r' h (view p at d s r' v)) [
          | inl y ↦ elim y.1 [
            | inl x ↦ absurd (let e : ◌≡◌ {A = Result State Fault} (Err f) (Ok x.0) = opens_one q d s (Err f) o (Ok x.0) x.1 in cc)
            | inr x ↦ let e : ◌≡◌ {A = Result State Fault} (Err f) (Err x.0) = opens_one q d s (Err f) o (Err x.0) x.1 in e ∙ sym x.2
          ]
          | inr y ↦ absurd (cc)
        ]
    walks_one p at d s r (scope h w) r' v = walks_one p (at + 1) d _ r w r' (from_item _ p at d s r' h (view p at d s r' v))
    walks_one p at d s r (enough h f w) r' v =
        elim (from_item _ p at d s r' h (view p at d s r' v)) [ inl x ↦ absurd (cc) | inr x ↦ walks_one p (at + 1) d s r w r' x.1 ]

    pub opens_one : (q d : ℕ) (s : State) (r : Result State Fault) → Opens text tokens q d s r → (r' : Result State Fault) → Opens text tokens q d s r' → r ≡ r'
    opens_one q d s r (deep h) r' v = elim (open_view q d s r' v) [ inl x ↦ sym x.1 | inr x ↦ absurd (omega (arith, x.0)) ]
    opens_one q d s r (refused {kind = kind} h e) r' v =
        elim (open_view q d s r' v) [
          | inl x ↦ absurd (omega (arith, x.0))
          | inr x ↦ elim x.1 [
            | inl y ↦ let k : ◌≡◌ {A = Option Kind} (Some kind) (Some y.0) = sym e ∙ y.1 in let l : kind ≡ y.0 = cc in ap (λ n. Err (unsupported n s.place)) l ∙ sym y.2
            | inr y ↦ absurd (let k : ◌≡◌ {A = Option Kind} (Some kind) None = sym e ∙ y.0 in cc)
          ]
        ]
    opens_one q d s r (whole {t = t} h e w) r' v =
        elim (open_view q d s r' v) [
          | inl x ↦ absurd (omega (arith, x.0))
          | inr x ↦ elim x.1 [
            | inl y ↦ absurd (let k : ◌≡◌ {A = Option Kind} None (Some y.0) = sym e ∙ y.1 in cc)
            | inr y ↦ elim y.1 [
              | inl z ↦
                  let f : ◌≡◌ {A = Result State Fault} (Ok t) (Ok z.0) = walks_one q 0 (d + nests q) (opened q s) (Ok t) w (Ok z.0) z.1 in
                  let l : t ≡ z.0 = cc in ap (λ u. Ok (closed q s u)) l ∙ sym z.2
              | inr z ↦ absurd (let f : ◌≡◌ {A = Result State Fault} (Ok t) (Err z.0) = walks_one q 0 (d + nests q) (opened q s) (Ok t) w (Err z.0) z.1 in cc)
            ]
          ]
        ]
    opens_one q d s r (broken {f = f} h e w) r' v =
        elim (open_view q d s r' v) [
          | inl x ↦ absurd (omega (arith, x.0))
          | inr x ↦ elim x.1 [
            | inl y ↦ absurd (let k : ◌≡◌ {A = Option Kind} None (Some y.0) = sym e ∙ y.1 in cc)
            | inr y ↦ elim y.1 [
              | inl z ↦ absurd (let g : ◌≡◌ {A = Result State Fault} (Err f) (Ok z.0) = walks_one q 0 (d + nests q) (opened q s) (Err f) w (Ok z.0) z.1 in cc)
              | inr z ↦ let g : ◌≡◌ {A = Result State Fault} (Err f) (Err z.0) = walks_one q 0 (d + nests q) (opened q s) (Err f) w (Err z.0) z.1 in g ∙ sym z.2
            ]
          ]
        ]
