-- How often a row stands in a list, and where.
use Rattle.std.proofs.Common.{◌≡◌, ◌⊎◌, ℕ, zero, suc, ◌+◌, ◌<◌, ◌≤◌, Bool, true, false, cond, eqb, List, [], ◌∷◌, ◌++◌, length, get_or, set, refl, sym, ◌∙◌, ap, inl, inr, arith}
use Rattle.std.proofs.lemmas.Bool.{eqb-true, eq-eqb, true≢false}
use Rattle.row_share.specs.share_laws.Orders.{times, unseen}

pub times_append : (row : ℕ) (xs ys : List ℕ) → times row (xs ++ ys) ≡ times row xs + times row ys
times_append row [] ys = let e : 0 + times row ys ≡ times row ys = omega arith in sym e
times_append row (x ∷ xs) ys =
    let ih = times_append row xs ys in
    let n = cond (eqb x row) 1 0 in
    let e : n + times row (xs ++ ys) ≡ n + times row xs + times row ys = omega arith in e

pub times_push : (row x : ℕ) (xs : List ℕ) → times row (xs ++ x ∷ []) ≡ times row xs + cond (eqb x row) 1 0
times_push row x xs = let a = times_append row xs (x ∷ []) in let n = cond (eqb x row) 1 0 in
    let e : n + 0 ≡ n = omega arith in a ∙ ap (λ m. times row xs + m) e

head_cases : (b : Bool) (m : ℕ) → 1 ≤ cond b 1 0 + m → (b ≡ true) ⊎ (1 ≤ m)
head_cases true m h = inl refl
head_cases false m h = inr (omega arith)

pub times_at : (row : ℕ) (xs : List ℕ) → 1 ≤ times row xs → (i : ℕ) × (i < length xs) × (get_or xs i 0 ≡ row)
times_at row [] h = absurd (omega arith)
times_at row (x ∷ xs) h = elim (head_cases (eqb x row) (times row xs) h) [
  | inl here ↦ (0, omega arith, eqb-true x row here)
  | inr more ↦ (let r = times_at row xs more in (suc r.0, (let lt = r.1 in omega arith), r.2))
]

first_counts : (b : Bool) (m : ℕ) → b ≡ true → 1 ≤ cond b 1 0 + m
first_counts true m e = omega arith
first_counts false m e = absurd (true≢false (sym e))

pub times_some : (row : ℕ) (xs : List ℕ) (i : ℕ) → i < length xs → get_or xs i 0 ≡ row → 1 ≤ times row xs
times_some row [] i lt e = absurd (omega arith)
times_some row (x ∷ xs) zero lt e = first_counts (eqb x row) (times row xs) (eq-eqb x row e)
times_some row (x ∷ xs) (suc i) lt e = let r = times_some row xs i (omega arith) e in let n = cond (eqb x row) 1 0 in
    let s : 1 ≤ n + times row xs = omega arith in s

two : (b : Bool) (m : ℕ) → b ≡ true → 1 ≤ m → cond b 1 0 + m ≤ 1 → ⊥
two true m e h le = omega arith
two false m e h le = true≢false (sym e)

rest_once : (b : Bool) (m : ℕ) → cond b 1 0 + m ≤ 1 → m ≤ 1
rest_once true m h = omega arith
rest_once false m h = omega arith

pub times_once : (row : ℕ) (xs : List ℕ) (i j : ℕ) → times row xs ≤ 1 → i < length xs → j < length xs → get_or xs i 0 ≡ row → get_or xs j 0 ≡ row → i ≡ j
times_once row [] i j h li lj ei ej = absurd (omega arith)
times_once row (x ∷ xs) zero zero h li lj ei ej = refl
times_once row (x ∷ xs) zero (suc j) h li lj ei ej = absurd (two (eqb x row) (times row xs) (eq-eqb x row ei) (times_some row xs j (omega arith) ej) h)
times_once row (x ∷ xs) (suc i) zero h li lj ei ej = absurd (two (eqb x row) (times row xs) (eq-eqb x row ej) (times_some row xs i (omega arith) ei) h)
times_once row (x ∷ xs) (suc i) (suc j) h li lj ei ej = ap suc (times_once row xs i j (rest_once (eqb x row) (times row xs) h) (omega arith) (omega arith) ei ej)

-- one row more is seen
pub unseen_set : (seen : List Bool) (i : ℕ) → i < length seen → get_or seen i false ≡ false → unseen (set seen i true) + 1 ≡ unseen seen
unseen_set [] i lt e = absurd (omega arith)
unseen_set (true ∷ seen) zero lt e = absurd (true≢false e)
unseen_set (false ∷ seen) zero lt e = let m = unseen seen in let same : m + 1 ≡ 1 + m = omega arith in same
unseen_set (true ∷ seen) (suc i) lt e = unseen_set seen i (omega arith) e
unseen_set (false ∷ seen) (suc i) lt e =
    let r = unseen_set seen i (omega arith) e in let a = unseen (set seen i true) in let b = unseen seen in
    let same : 1 + a + 1 ≡ 1 + b = omega arith in same
