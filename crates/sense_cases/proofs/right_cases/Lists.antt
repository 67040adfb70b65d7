-- Facts of each item of a written list.
use Rattle.std.proofs.Common.{◌≡◌, ℕ, zero, suc, ◌<◌, List, [], ◌∷◌, Some, All, length, slice_get, get_or, arith, subst}
use Rattle.std.specs.Prelude.{⊤}

-- a fact of each item with its number
abbrev pub Each : {X : Type 0} → (ℕ → X → Type 0) → List X → Type 0
Each P [] = ⊤
Each P (x ∷ xs) = P 0 x × Each (λ n y. P (suc n) y) xs

pub each_of : {X : Type 0} (P : ℕ → X → Type 0) (xs : List X) → Each P xs → (n : ℕ) (x : X) → slice_get xs n ≡ Some x → P n x
each_of P [] all n x e = cc
each_of {X} P (y ∷ ys) all zero x e = subst (λ (z : X). P 0 z) (let same : y ≡ x = cc in same) all.0
each_of P (y ∷ ys) all (suc n) x e = each_of (λ m z. P (suc m) z) ys all.1 n x e

pub all_of : {X : Type 0} (P : X → Type 0) (xs : List X) → Each (λ n x. P x) xs → All P xs
all_of P [] all k d lt = absurd (omega (arith, lt))
all_of P (x ∷ xs) all zero d lt = all.0
all_of P (x ∷ xs) all (suc k) d lt = all_of P xs all.1 k d (omega (arith, lt))

-- a fact of what stands at a number, or is taken for it past the end
pub at_each : {X : Type 0} (P : X → Type 0) (d : X) (xs : List X) → Each (λ n x. P x) xs → P d → (n : ℕ) → P (get_or xs n d)
at_each P d [] all end n = end
at_each P d (x ∷ xs) all end zero = all.0
at_each P d (x ∷ xs) all end (suc n) = at_each P d xs all.1 end n

-- a fact of each number below a list's length
pub below_each : {X : Type 0} (P : ℕ → Type 0) (xs : List X) → Each (λ n x. P n) xs → (n : ℕ) → n < length xs → P n
below_each P [] all n lt = absurd (omega (arith, lt))
below_each P (x ∷ xs) all zero lt = all.0
below_each P (x ∷ xs) all (suc n) lt = below_each (λ m. P (suc m)) xs all.1 n (omega (arith, lt))
