-- Lists of numbers in the order of dictionaries.
use Rattle.std.proofs.Common.{arith, ◌≡◌, ◌∙◌, ◌⊎◌, ◌<◌, ℕ, List, [], ◌∷◌, refl, sym, ap, inl, inr}
use Rattle.std.specs.Prelude.{⊤}
use Rattle.std.proofs.lemmas.Bool.{cases_lt, cases_eq}

-- one list before another
abbrev pub Before : List ℕ → List ℕ → Type 0
Before [] bs = ⊥
Before (a ∷ rs) [] = ⊥
Before (a ∷ rs) (b ∷ bs) = (a < b) ⊎ ((a ≡ b) × Before rs bs)

pub before_then : (rs bs cs : List ℕ) → Before rs bs → Before bs cs → Before rs cs
before_then [] bs cs h k = absurd h
before_then (a ∷ rs) [] cs h k = absurd h
before_then (a ∷ rs) (b ∷ bs) [] h k = absurd k
before_then (a ∷ rs) (b ∷ bs) (c ∷ cs) (inl h) (inl k) = inl (omega (arith, h, k))
before_then (a ∷ rs) (b ∷ bs) (c ∷ cs) (inl h) (inr k) = inl (let e = k.0 in omega (arith, h, e))
before_then (a ∷ rs) (b ∷ bs) (c ∷ cs) (inr h) (inl k) = inl (let e = h.0 in omega (arith, e, k))
before_then (a ∷ rs) (b ∷ bs) (c ∷ cs) (inr h) (inr k) = inr (h.0 ∙ k.0, before_then rs bs cs h.1 k.1)

pub not_itself : (rs : List ℕ) → Before rs rs → ⊥
not_itself [] h = h
not_itself (a ∷ rs) (inl h) = omega (arith, h)
not_itself (a ∷ rs) (inr h) = not_itself rs h.1

-- lists of one length
abbrev pub AsLong : List ℕ → List ℕ → Type 0
AsLong [] [] = ⊤
AsLong (a ∷ rs) (b ∷ bs) = AsLong rs bs
AsLong rs bs = ⊥

-- are one, or one is before the other
pub either_way : (rs bs : List ℕ) → AsLong rs bs → (rs ≡ bs) ⊎ (Before rs bs ⊎ Before bs rs)
either_way [] [] long = inl refl
either_way [] (b ∷ bs) long = absurd long
either_way (a ∷ rs) [] long = absurd long
either_way (a ∷ rs) (b ∷ bs) long = elim (cases_lt a b) [
  | inl lt ↦ inr (inl (inl lt))
  | inr ge ↦ elim (cases_eq a b) [
    | inl e ↦ elim (either_way rs bs long) [
      | inl same ↦ inl (ap (λ (n : ℕ). n ∷ rs) e ∙ ap (λ (ns : List ℕ). b ∷ ns) same)
      | inr differ ↦ elim differ [
        | inl before ↦ inr (inl (inr (e, before)))
        | inr behind ↦ inr (inr (inr (sym e, behind)))
      ]
    ]
    | inr other ↦ inr (inr (inl (omega (arith, ge, other))))
  ]
]
