-- Entries in order of place, where no two stand at one place.
use Rattle.std.proofs.Common.{◌≡◌, ◌⊎◌, ℕ, ◌<◌, [], ◌∷◌, refl, sym, ◌∙◌, ap, subst, inl, inr, arith}
use Rattle.std.proofs.lemmas.Bool.{cases_lt, cases_eq}
use Rattle.std.specs.Prelude.{⊤}
use Rattle.std.specs.BTreeMap.{insert_entry}
use Rattle.std.specs.Cmp.{nat_cmp_is}
use Rattle.std.specs.Ordering.{match_ordering, nat_cmp, ordering_then}
use Rattle.std.specs.declared.cmp.Ordering.{Ordering}
use Rattle.std.specs.declared.cmp.Ordering.TheVariants.{Less, Equal, Greater}
use Rattle.unit_report.specs.report_text.Report.{Spot, Placed, by_place}

-- an entry, and the unit, line and column of its spot
abbrev pub Entry : Type 0
Entry = Spot × ℕ

pub record Where : Type 0 where
  pub unit : ℕ
  pub line : ℕ
  pub column : ℕ

abbrev pub spot_of : Entry → Where
spot_of e = record { unit = e.0.0; line = e.0.1; column = e.0.2 }

-- one place before another
abbrev pub Before : Where → Where → Type 0
Before a b = (a.unit < b.unit) ⊎ ((a.unit ≡ b.unit) × ((a.line < b.line) ⊎ ((a.line ≡ b.line) × (a.column < b.column))))

pub before_then : (a b c : Where) → Before a b → Before b c → Before a c
before_then a b c (inl h) (inl k) = inl (omega (arith, h, k))
before_then a b c (inl h) (inr k) = inl (let e = k.0 in omega (arith, h, e))
before_then a b c (inr h) (inl k) = inl (let e = h.0 in omega (arith, e, k))
before_then a b c (inr (e, inl h)) (inr (f, inl k)) = inr (e ∙ f, inl (omega (arith, h, k)))
before_then a b c (inr (e, inl h)) (inr (f, inr k)) = inr (e ∙ f, inl (let g = k.0 in omega (arith, h, g)))
before_then a b c (inr (e, inr h)) (inr (f, inl k)) = inr (e ∙ f, inl (let g = h.0 in omega (arith, g, k)))
before_then a b c (inr (e, inr h)) (inr (f, inr k)) = inr (e ∙ f, inr (h.0 ∙ k.0, (let l = h.1 in let m = k.1 in omega (arith, l, m))))

pub not_itself : (a : Where) → Before a a → ⊥
not_itself a (inl h) = omega (arith, h)
not_itself a (inr (e, inl h)) = omega (arith, h)
not_itself a (inr (e, inr h)) = let l = h.1 in omega (arith, l)

where_is : (a b : Where) → a.unit ≡ b.unit → a.line ≡ b.line → a.column ≡ b.column → a ≡ b
where_is a b e f g = λ i. record { unit = e i; line = f i; column = g i }

-- of two places one is before the other, or they are one
pub either_way : (a b : Where) → (a ≡ b) ⊎ (Before a b ⊎ Before b a)
either_way a b = elim (cases_lt a.unit b.unit) [
  | inl lt ↦ inr (inl (inl lt))
  | inr ge ↦ elim (cases_eq a.unit b.unit) [
    | inl e ↦ elim (cases_lt a.line b.line) [
      | inl lt ↦ inr (inl (inr (e, inl lt)))
      | inr le ↦ elim (cases_eq a.line b.line) [
        | inl f ↦ elim (cases_lt a.column b.column) [
          | inl lt ↦ inr (inl (inr (e, inr (f, lt))))
          | inr past ↦ elim (cases_eq a.column b.column) [
            | inl g ↦ inl (where_is a b e f g)
            | inr other ↦ inr (inr (inr (sym e, inr (sym f, omega (arith, past, other)))))
          ]
        ]
        | inr other ↦ inr (inr (inr (sym e, inl (omega (arith, le, other)))))
      ]
    ]
    | inr other ↦ inr (inr (inl (omega (arith, ge, other))))
  ]
]

-- what an insertion compares
less_at : (a b : Spot) (n m : ℕ) → Before (spot_of (a, n)) (spot_of (b, m)) → by_place a b ≡ Less
less_at a b n m (inl h) =
    ap (λ (o : Ordering). ordering_then o (ordering_then (nat_cmp a.1 b.1) (ordering_then (nat_cmp a.2 b.2) (nat_cmp a.3 b.3)))) (sym (nat_cmp_is a.0 b.0 Less h))
less_at a b n m (inr (e, inl h)) =
    ap (λ (o : Ordering). ordering_then o (ordering_then (nat_cmp a.1 b.1) (ordering_then (nat_cmp a.2 b.2) (nat_cmp a.3 b.3)))) (sym (nat_cmp_is a.0 b.0 Equal e))
    ∙ ap (λ (o : Ordering). ordering_then o (ordering_then (nat_cmp a.2 b.2) (nat_cmp a.3 b.3))) (sym (nat_cmp_is a.1 b.1 Less h))
less_at a b n m (inr (e, inr h)) =
    ap (λ (o : Ordering). ordering_then o (ordering_then (nat_cmp a.1 b.1) (ordering_then (nat_cmp a.2 b.2) (nat_cmp a.3 b.3)))) (sym (nat_cmp_is a.0 b.0 Equal e))
    ∙ (ap (λ (o : Ordering). ordering_then o (ordering_then (nat_cmp a.2 b.2) (nat_cmp a.3 b.3))) (sym (nat_cmp_is a.1 b.1 Equal h.0))
    ∙ ap (λ (o : Ordering). ordering_then o (nat_cmp a.3 b.3)) (sym (nat_cmp_is a.2 b.2 Less h.1)))

greater_at : (a b : Spot) (n m : ℕ) → Before (spot_of (b, m)) (spot_of (a, n)) → by_place a b ≡ Greater
greater_at a b n m (inl h) =
    ap (λ (o : Ordering). ordering_then o (ordering_then (nat_cmp a.1 b.1) (ordering_then (nat_cmp a.2 b.2) (nat_cmp a.3 b.3)))) (sym (nat_cmp_is a.0 b.0 Greater h))
greater_at a b n m (inr (e, inl h)) =
    ap (λ (o : Ordering). ordering_then o (ordering_then (nat_cmp a.1 b.1) (ordering_then (nat_cmp a.2 b.2) (nat_cmp a.3 b.3)))) (sym (nat_cmp_is a.0 b.0 Equal (sym e)))
    ∙ ap (λ (o : Ordering). ordering_then o (ordering_then (nat_cmp a.2 b.2) (nat_cmp a.3 b.3))) (sym (nat_cmp_is a.1 b.1 Greater h))
greater_at a b n m (inr (e, inr h)) =
    ap (λ (o : Ordering). ordering_then o (ordering_then (nat_cmp a.1 b.1) (ordering_then (nat_cmp a.2 b.2) (nat_cmp a.3 b.3)))) (sym (nat_cmp_is a.0 b.0 Equal (sym e)))
    ∙ (ap (λ (o : Ordering). ordering_then o (ordering_then (nat_cmp a.2 b.2) (nat_cmp a.3 b.3))) (sym (nat_cmp_is a.1 b.1 Equal (sym h.0)))
    ∙ ap (λ (o : Ordering). ordering_then o (nat_cmp a.3 b.3)) (sym (nat_cmp_is a.2 b.2 Greater h.1)))

-- ---- lists in order
abbrev pub Among : Placed → Entry → Type 0
Among [] x = ⊥
Among (e ∷ es) x = (e ≡ x) ⊎ Among es x

abbrev pub After : Entry → Placed → Type 0
After e [] = ⊤
After e (f ∷ fs) = Before (spot_of e) (spot_of f) × After e fs

abbrev pub InOrder : Placed → Type 0
InOrder [] = ⊤
InOrder (e ∷ es) = After e es × InOrder es

pub after_each : (e : Entry) (es : Placed) (x : Entry) → After e es → Among es x → Before (spot_of e) (spot_of x)
after_each e [] x h there = elim there [ ]
after_each e (f ∷ fs) x h (inl same) = subst (λ (y : Entry). Before (spot_of e) (spot_of y)) same h.0
after_each e (f ∷ fs) x h (inr more) = after_each e fs x h.1 more

after_more : (e f : Entry) (es : Placed) → Before (spot_of e) (spot_of f) → After f es → After e es
after_more e f [] lt h = tt
after_more e f (g ∷ gs) lt h = (before_then (spot_of e) (spot_of f) (spot_of g) lt h.0, after_more e f gs lt h.1)

-- an entry at a place where none of these stands
abbrev pub Stands : Placed → Entry → Type 0
Stands es x = (e : Entry) → Among es e → spot_of x ≡ spot_of e → ⊥

module _ (spot : Spot) (number : ℕ) where
  put_after : (e : Entry) (es : Placed) → Before (spot_of e) (spot_of (spot, number)) → After e es → After e (insert_entry by_place es spot number)
  put_after e [] lt h = (lt, tt)
  put_after e (f ∷ fs) lt h = by (by_place spot f.0) (put_after e fs lt h.1)
    where
      by : (q : Ordering) → After e (insert_entry by_place fs spot number) → After e (match_ordering q ((spot, number) ∷ f ∷ fs) ((f.0, number) ∷ fs) (f ∷ insert_entry by_place fs spot number))
      by Less later = (lt, h)
      by Equal later = (h.0, h.1)
      by Greater later = (h.0, later)

  pub put_in_order : (es : Placed) → Stands es (spot, number) → InOrder es → InOrder (insert_entry by_place es spot number)
  put_in_order [] new h = (tt, tt)
  put_in_order (f ∷ fs) new h = elim (either_way (spot_of (spot, number)) (spot_of f)) [
    | inl same ↦ absurd (new f (inl refl) same)
    | inr differ ↦ elim differ [
      | inl lt ↦
          subst (λ (q : Ordering). InOrder (match_ordering q ((spot, number) ∷ f ∷ fs) ((f.0, number) ∷ fs) (f ∷ insert_entry by_place fs spot number)))
          (sym (less_at spot f.0 number f.1 lt)) ((lt, after_more (spot, number) f fs lt h.0), h)
      | inr gt ↦
          subst (λ (q : Ordering). InOrder (match_ordering q ((spot, number) ∷ f ∷ fs) ((f.0, number) ∷ fs) (f ∷ insert_entry by_place fs spot number)))
          (sym (greater_at spot f.0 number f.1 gt))
          (put_after f fs gt h.0, put_in_order fs (λ e among. new e (inr among)) h.1)
    ]
  ]

  pub put_there : (es : Placed) → Stands es (spot, number) → Among (insert_entry by_place es spot number) (spot, number)
  put_there [] new = inl refl
  put_there (f ∷ fs) new = elim (either_way (spot_of (spot, number)) (spot_of f)) [
    | inl same ↦ absurd (new f (inl refl) same)
    | inr differ ↦ elim differ [
      | inl lt ↦
          subst (λ (q : Ordering). Among (match_ordering q ((spot, number) ∷ f ∷ fs) ((f.0, number) ∷ fs) (f ∷ insert_entry by_place fs spot number)) (spot, number))
          (sym (less_at spot f.0 number f.1 lt)) (inl refl)
      | inr gt ↦
          subst (λ (q : Ordering). Among (match_ordering q ((spot, number) ∷ f ∷ fs) ((f.0, number) ∷ fs) (f ∷ insert_entry by_place fs spot number)) (spot, number))
          (sym (greater_at spot f.0 number f.1 gt)) (inr (put_there fs (λ e among. new e (inr among))))
    ]
  ]

  pub put_kept : (es : Placed) (x : Entry) → Stands es (spot, number) → Among es x → Among (insert_entry by_place es spot number) x
  put_kept [] x new there = elim there [ ]
  put_kept (f ∷ fs) x new there = elim (either_way (spot_of (spot, number)) (spot_of f)) [
    | inl same ↦ absurd (new f (inl refl) same)
    | inr differ ↦ elim differ [
      | inl lt ↦
          subst (λ (q : Ordering). Among (match_ordering q ((spot, number) ∷ f ∷ fs) ((f.0, number) ∷ fs) (f ∷ insert_entry by_place fs spot number)) x)
          (sym (less_at spot f.0 number f.1 lt)) (inr there)
      | inr gt ↦
          subst (λ (q : Ordering). Among (match_ordering q ((spot, number) ∷ f ∷ fs) ((f.0, number) ∷ fs) (f ∷ insert_entry by_place fs spot number)) x)
          (sym (greater_at spot f.0 number f.1 gt)) (elim there [ inl same ↦ inl same | inr more ↦ inr (put_kept fs x (λ e among. new e (inr among)) more) ])
    ]
  ]

  pub put_from : (es : Placed) (x : Entry) → Stands es (spot, number) → Among (insert_entry by_place es spot number) x → ((spot, number) ≡ x) ⊎ Among es x
  put_from [] x new there = there
  put_from (f ∷ fs) x new there = elim (either_way (spot_of (spot, number)) (spot_of f)) [
    | inl same ↦ absurd (new f (inl refl) same)
    | inr differ ↦ elim differ [
      | inl lt ↦
          subst (λ (q : Ordering). Among (match_ordering q ((spot, number) ∷ f ∷ fs) ((f.0, number) ∷ fs) (f ∷ insert_entry by_place fs spot number)) x)
          (less_at spot f.0 number f.1 lt) there
      | inr gt ↦ elim (subst (λ (q : Ordering). Among (match_ordering q ((spot, number) ∷ f ∷ fs) ((f.0, number) ∷ fs) (f ∷ insert_entry by_place fs spot number)) x)
          (greater_at spot f.0 number f.1 gt) there) [
            | inl same ↦ inr (inl same)
            | inr more ↦ elim (put_from fs x (λ e among. new e (inr among)) more) [ inl same ↦ inl same | inr kept ↦ inr (inr kept) ]
          ]
    ]
  ]
