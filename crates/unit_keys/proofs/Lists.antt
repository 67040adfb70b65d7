-- Numbers in order, and what is found among them.
use Rattle.std.proofs.Common.{arith, ◌≡◌, ◌∙◌, ℕ, zero, suc, ◌+◌, ◌<◌, ◌≤◌, inl, inr, Bool, true, false, cond, List, [], ◌∷◌, ◌++◌, length, get_or, drop, Some, None, refl, sym, ap}
use Rattle.std.proofs.lemmas.Bool.Decides.{eqb_tells}
use Rattle.std.specs.Prelude.{◌||◌}
use Rattle.c_senses.specs.Tree.{any_where, first_where, numbers_from}
use Rattle.c_senses.specs.World.{or_else}

-- one number more, at the end
pub numbers_more : (k n : ℕ) → numbers_from k (suc n) ≡ numbers_from k n ++ (k + n) ∷ []
numbers_more k zero = let e : k ≡ k + 0 = omega arith in ap (λ (x : ℕ). x ∷ []) e
numbers_more k (suc n) =
    let e : suc k + n ≡ k + suc n = omega arith in
    ap (λ (xs : List ℕ). k ∷ xs) (numbers_more (suc k) n ∙ ap (λ (x : ℕ). numbers_from (suc k) n ++ x ∷ []) e)

or_assoc : (a b c : Bool) → ((a || b) || c) ≡ (a || (b || c))
or_assoc true b c = refl
or_assoc false b c = refl

or_none : (a : Bool) → (a || false) ≡ a
or_none true = refl
or_none false = refl

any_behind : (test : ℕ → Bool) (xs : List ℕ) (x : ℕ) → any_where test (xs ++ x ∷ []) ≡ (any_where test xs || test x)
any_behind test [] x = or_none (test x)
any_behind test (y ∷ xs) x = ap (λ (b : Bool). test y || b) (any_behind test xs x) ∙ sym (or_assoc (test y) (any_where test xs) (test x))

pub any_more : (test : ℕ → Bool) (n : ℕ) → any_where test (numbers_from 0 (n + 1)) ≡ (any_where test (numbers_from 0 n) || test n)
any_more test n =
    let e : n + 1 ≡ suc n = omega arith in
    let f : 0 + n ≡ n = omega arith in
    ap (λ (m : ℕ). any_where test (numbers_from 0 m)) e
    ∙ (ap (any_where test) (numbers_more 0 n ∙ ap (λ (x : ℕ). numbers_from 0 n ++ x ∷ []) f) ∙ any_behind test (numbers_from 0 n) n)

-- the first of what is left
pub drop_step : (xs : List ℕ) (i : ℕ) → i < length xs → drop i xs ≡ get_or xs i 0 ∷ drop (i + 1) xs
drop_step [] i lt = absurd (omega arith)
drop_step (x ∷ xs) zero lt = refl
drop_step (x ∷ xs) (suc i) lt =
    let e : suc (i + 1) ≡ suc i + 1 = omega arith in
    drop_step xs i (omega (arith, lt)) ∙ ap (λ (n : ℕ). get_or xs i 0 ∷ drop n (x ∷ xs)) e

first_behind : (test : ℕ → Bool) (xs : List ℕ) (x : ℕ) → first_where test (xs ++ x ∷ []) ≡ or_else (first_where test xs) (cond (test x) (Some x) None)
first_behind test [] x = refl
first_behind test (y ∷ xs) x = by_test (test y) (first_behind test xs x)
  where
    by_test : (b : Bool) → first_where test (xs ++ x ∷ []) ≡ or_else (first_where test xs) (cond (test x) (Some x) None) → cond b (Some y) (first_where test (xs ++ x ∷ [])) ≡ or_else (cond b (Some y) (first_where test xs)) (cond (test x) (Some x) None)
    by_test true h = refl
    by_test false h = h

pub first_more : (test : ℕ → Bool) (n : ℕ) → first_where test (numbers_from 0 (n + 1)) ≡ or_else (first_where test (numbers_from 0 n)) (cond (test n) (Some n) None)
first_more test n =
    let e : n + 1 ≡ suc n = omega arith in
    let f : 0 + n ≡ n = omega arith in
    ap (λ (m : ℕ). first_where test (numbers_from 0 m)) e
    ∙ (ap (first_where test) (numbers_more 0 n ∙ ap (λ (x : ℕ). numbers_from 0 n ++ x ∷ []) f) ∙ first_behind test (numbers_from 0 n) n)

-- what is found passes, and what passes is found
pub any_found : (test : ℕ → Bool) (n c : ℕ) → c < n → test c ≡ true → any_where test (numbers_from 0 n) ≡ true
any_found test n c lt on = any_from test 0 n c (omega arith) (omega (arith, lt)) on
  where
    or_right : (a b : Bool) → b ≡ true → (a || b) ≡ true
    or_right true b h = refl
    or_right false b h = h

    any_from : (test : ℕ → Bool) (k n c : ℕ) → k ≤ c → c < k + n → test c ≡ true → any_where test (numbers_from k n) ≡ true
    any_from test k zero c le lt on = absurd (omega arith)
    any_from test k (suc n) c le lt on =
        elim (eqb_tells k c) [
          | inl p ↦ ap (λ (b : Bool). b || any_where test (numbers_from (suc k) n)) (ap test p.1 ∙ on)
          | inr p ↦ or_right (test k) (any_where test (numbers_from (suc k) n)) (any_from test (suc k) n c (omega (arith, p.1, le)) (omega (arith, lt)) on)
        ]

pub none_found : (test : ℕ → Bool) (n : ℕ) → ((c : ℕ) → c < n → test c ≡ true → ⊥) → any_where test (numbers_from 0 n) ≡ false
none_found test n none = none_from test 0 n (λ c le lt on. none c (omega (arith, lt)) on)
  where
    or_false : (a b : Bool) → (a ≡ true → ⊥) → b ≡ false → (a || b) ≡ false
    or_false true b h e = absurd (h refl)
    or_false false b h e = e

    none_from : (test : ℕ → Bool) (k n : ℕ) → ((c : ℕ) → k ≤ c → c < k + n → test c ≡ true → ⊥) → any_where test (numbers_from k n) ≡ false
    none_from test k zero none = refl
    none_from test k (suc n) none =
        or_false (test k) (any_where test (numbers_from (suc k) n)) (λ on. none k (omega arith) (omega arith) on)
        (none_from test (suc k) n (λ c le lt on. none c (omega (arith, le)) (omega (arith, lt)) on))
