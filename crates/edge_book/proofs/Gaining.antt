-- Lists of pairs that grow by the edges of one kind after another.
use Rattle.std.proofs.Common.{◌≡◌, ◌⊎◌, ℕ, ◌+◌, ◌<◌, List, inl, inr, subst, arith}
use Rattle.std.proofs.lemmas.Bool.{cases_lt}
use Rattle.edge_book.specs.Edges.{Gains}

pub gains_none : (old : List (ℕ × ℕ)) (Edge : ℕ → ℕ → Type 0) → ((a b : ℕ) → Edge a b → ⊥) → Gains old old Edge
gains_none old Edge none a b = (λ h. inl h, λ h. elim h [ inl o ↦ o | inr e ↦ absurd (none a b e) ])

pub gains_same : (old new : List (ℕ × ℕ)) (Edge Other : ℕ → ℕ → Type 0) → ((a b : ℕ) → Edge a b → Other a b) → ((a b : ℕ) → Other a b → Edge a b) → Gains old new Edge → Gains old new Other
gains_same old new Edge Other to from g a b = (
  λ h. elim ((g a b).0 h) [ inl o ↦ inl o | inr e ↦ inr (to a b e) ],
  λ h. elim h [ inl o ↦ (g a b).1 (inl o) | inr e ↦ (g a b).1 (inr (from a b e)) ],
)

pub gains_both : (old mid new : List (ℕ × ℕ)) (Edge Other : ℕ → ℕ → Type 0) → Gains old mid Edge → Gains mid new Other → Gains old new (λ a b. Edge a b ⊎ Other a b)
gains_both old mid new Edge Other g k a b = (
  λ h. elim ((k a b).0 h) [ inl m ↦ elim ((g a b).0 m) [ inl o ↦ inl o | inr e ↦ inr (inl e) ] | inr e ↦ inr (inr e) ],
  λ h. elim h [
    | inl o ↦ (k a b).1 (inl ((g a b).1 (inl o)))
    | inr both ↦ elim both [ inl e ↦ (k a b).1 (inl ((g a b).1 (inr e))) | inr e ↦ (k a b).1 (inr e) ]
  ],
)

-- the edges of the numbers below i
abbrev pub Below : ℕ → (ℕ → ℕ → ℕ → Type 0) → ℕ → ℕ → Type 0
Below i At a b = (k : ℕ) × (k < i) × At k a b

pub none_below : (old : List (ℕ × ℕ)) (At : ℕ → ℕ → ℕ → Type 0) → Gains old old (Below 0 At)
none_below old At = gains_none old (Below 0 At) (λ a b h. let l = h.1 in absurd (omega arith))

-- and those of i
pub one_more : (old mid new : List (ℕ × ℕ)) (i : ℕ) (At : ℕ → ℕ → ℕ → Type 0) → Gains old mid (Below i At) → Gains mid new (At i) → Gains old new (Below (i + 1) At)
one_more old mid new i At g k =
    gains_same old new (λ a b. Below i At a b ⊎ At i a b) (Below (i + 1) At)
    (λ a b h. elim h [ inl e ↦ (let l = e.1 in (e.0, omega arith, e.2)) | inr e ↦ (i, omega arith, e) ])
    (λ a b h. elim (cases_lt h.0 i) [ inl lt ↦ inl (h.0, lt, h.2) | inr ge ↦ (let l = h.1 in let e : h.0 ≡ i = omega arith in inr (subst (λ (j : ℕ). At j a b) e h.2)) ])
    (gains_both old mid new (Below i At) (At i) g k)
