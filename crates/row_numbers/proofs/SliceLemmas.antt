-- Elements of a list after a write or a push.
use Rattle.std.proofs.Common.{arith, ◌≡◌, ℕ, zero, suc, ◌<◌, ◌⊎◌, inl, inr, List, [], ◌∷◌, ◌++◌, Some, length, set, refl, ap}
use Rattle.std.specs.List.{slice_get}
use Rattle.core_tree.specs.Range.{Has}

pub get_set_same : {X : Type 0} (xs : List X) (i : ℕ) (v : X) → i < length xs → slice_get (set xs i v) i ≡ Some v
get_set_same [] i v h = absurd (omega arith)
get_set_same (x ∷ xs) zero v h = refl
get_set_same (x ∷ xs) (suc i) v h = get_set_same xs i v (omega arith)

pub get_set_other : {X : Type 0} (xs : List X) (i j : ℕ) (v : X) → (i ≡ j → ⊥) → slice_get (set xs i v) j ≡ slice_get xs j
get_set_other [] i j v h = refl
get_set_other (x ∷ xs) zero zero v h = absurd (h refl)
get_set_other (x ∷ xs) zero (suc j) v h = refl
get_set_other (x ∷ xs) (suc i) zero v h = refl
get_set_other (x ∷ xs) (suc i) (suc j) v h = get_set_other xs i j v (λ q. h (ap (λ (n : ℕ). suc n) q))

pub get_push_last : {X : Type 0} (xs : List X) (x : X) → slice_get (xs ++ x ∷ []) (length xs) ≡ Some x
get_push_last [] x = refl
get_push_last (y ∷ xs) x = get_push_last xs x

pub get_push_before : {X : Type 0} (xs : List X) (x y : X) (i : ℕ) → slice_get xs i ≡ Some y → slice_get (xs ++ x ∷ []) i ≡ Some y
get_push_before [] x y i h = cc
get_push_before (z ∷ xs) x y zero h = h
get_push_before (z ∷ xs) x y (suc i) h = get_push_before xs x y i h

pub get_push_cases : {X : Type 0} (xs : List X) (x y : X) (i : ℕ) → slice_get (xs ++ x ∷ []) i ≡ Some y → (slice_get xs i ≡ Some y) ⊎ ((i ≡ length xs) × (y ≡ x))
get_push_cases [] x y zero h = inr (refl, cc)
get_push_cases [] x y (suc i) h = cc
get_push_cases (z ∷ xs) x y zero h = inl h
get_push_cases (z ∷ xs) x y (suc i) h = next (get_push_cases xs x y i h) where
  next : (slice_get xs i ≡ Some y) ⊎ ((i ≡ length xs) × (y ≡ x)) → (slice_get xs i ≡ Some y) ⊎ ((suc i ≡ suc (length xs)) × (y ≡ x))
  next (inl e) = inl e
  next (inr e) = inr (ap (λ (n : ℕ). suc n) e.0, e.1)

pub within : {X : Type 0} (xs : List X) (i : ℕ) (x : X) → slice_get xs i ≡ Some x → i < length xs
within [] i x h = cc
within (y ∷ xs) zero x h = omega arith
within (y ∷ xs) (suc i) x h = let lt = within xs i x h in omega arith

pub has_push : (xs : List ℕ) (x n : ℕ) → Has (xs ++ x ∷ []) n → Has xs n ⊎ (n ≡ x)
has_push xs x n (k, e) = by (get_push_cases xs x n k e) where
  by : (slice_get xs k ≡ Some n) ⊎ ((k ≡ length xs) × (n ≡ x)) → Has xs n ⊎ (n ≡ x)
  by (inl found) = inl (k, found)
  by (inr last) = inr last.1

pub has_last : (xs : List ℕ) (x : ℕ) → Has (xs ++ x ∷ []) x
has_last xs x = (length xs, get_push_last xs x)

pub has_before : (xs : List ℕ) (x n : ℕ) → Has xs n → Has (xs ++ x ∷ []) n
has_before xs x n (k, e) = (k, get_push_before xs x n k e)
