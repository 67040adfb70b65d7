-- Nodes by number, one more at a time.
use Rattle.std.proofs.Common.{arith, ◌≡◌, ℕ, zero, suc, ◌+◌, ◌<◌, Bool, true, false, ◌&&◌, ◌||◌, List, [], ◌∷◌, ◌++◌, cond, refl, sym, ap, ◌∙◌, ◌⊎◌, inl, inr}
use Rattle.std.proofs.lemmas.Bool.Decides.{leb_tells}
use Rattle.c_senses.specs.Tree.{any_where, all_where, numbers_from}

numbers_more : (k n : ℕ) → numbers_from k (suc n) ≡ numbers_from k n ++ (k + n) ∷ []
numbers_more k zero = ap (λ (i : ℕ). i ∷ []) (omega arith)
numbers_more k (suc n) =
    let e : suc k + n ≡ k + suc n = omega arith in
    ap (λ (is : List ℕ). k ∷ is) (numbers_more (suc k) n ∙ ap (λ (i : ℕ). numbers_from (suc k) n ++ i ∷ []) e)

pub numbers_next : (n : ℕ) → numbers_from 0 (n + 1) ≡ numbers_from 0 n ++ n ∷ []
numbers_next n =
    let e : n + 1 ≡ suc n = omega arith in
    let f : 0 + n ≡ n = omega arith in
    ap (λ (m : ℕ). numbers_from 0 m) e ∙ (numbers_more 0 n ∙ ap (λ (i : ℕ). numbers_from 0 n ++ i ∷ []) f)

or_assoc : (a b c : Bool) → ((a || b) || c) ≡ (a || (b || c))
or_assoc true b c = refl
or_assoc false b c = refl

or_false : (a : Bool) → (a || false) ≡ a
or_false true = refl
or_false false = refl

any_append : (test : ℕ → Bool) (xs ys : List ℕ) → any_where test (xs ++ ys) ≡ (any_where test xs || any_where test ys)
any_append test [] ys = refl
any_append test (x ∷ xs) ys = ap (λ (b : Bool). test x || b) (any_append test xs ys) ∙ sym (or_assoc (test x) (any_where test xs) (any_where test ys))

-- a node more
pub any_next : (test : ℕ → Bool) (n : ℕ) → any_where test (numbers_from 0 (n + 1)) ≡ (any_where test (numbers_from 0 n) || test n)
any_next test n =
    ap (any_where test) (numbers_next n) ∙ (any_append test (numbers_from 0 n) (n ∷ []) ∙ ap (λ (b : Bool). any_where test (numbers_from 0 n) || b) (or_false (test n)))

all_append : (test : ℕ → Bool) (xs ys : List ℕ) → all_where test (xs ++ ys) ≡ all_where test xs ++ all_where test ys
all_append test [] ys = refl
all_append test (x ∷ xs) ys = elim (test x) as (λ b. cond b (x ∷ all_where test (xs ++ ys)) (all_where test (xs ++ ys)) ≡ cond b (x ∷ all_where test xs) (all_where test xs) ++ all_where test ys) [
  | true ↦ ap (λ (zs : List ℕ). x ∷ zs) (all_append test xs ys)
  | false ↦ all_append test xs ys
]

-- those that pass, with a node more
pub all_next : (test : ℕ → Bool) (n : ℕ) → all_where test (numbers_from 0 (n + 1)) ≡ all_where test (numbers_from 0 n) ++ cond (test n) (n ∷ []) []
all_next test n = ap (all_where test) (numbers_next n) ∙ all_append test (numbers_from 0 n) (n ∷ [])

any_one : (wanted passes : ℕ → Bool) (x : ℕ) → any_where wanted (all_where passes (x ∷ [])) ≡ (passes x && wanted x)
any_one wanted passes x = elim (passes x) as (λ b. any_where wanted (cond b (x ∷ []) []) ≡ (b && wanted x)) [ true ↦ or_false (wanted x) | false ↦ refl ]

-- one more among those that pass
pub any_passing_next : (wanted passes : ℕ → Bool) (n : ℕ) → any_where wanted (all_where passes (numbers_from 0 (n + 1))) ≡ (any_where wanted (all_where passes (numbers_from 0 n)) || (passes n && wanted n))
any_passing_next wanted passes n =
    ap (λ (is : List ℕ). any_where wanted (all_where passes is)) (numbers_next n)
    ∙ (ap (any_where wanted) (all_append passes (numbers_from 0 n) (n ∷ []))
    ∙ (any_append wanted (all_where passes (numbers_from 0 n)) (all_where passes (n ∷ []))
    ∙ ap (λ (b : Bool). any_where wanted (all_where passes (numbers_from 0 n)) || b) (any_one wanted passes n)))

any_suc : (test : ℕ → Bool) (n : ℕ) → any_where test (numbers_from 0 (suc n)) ≡ (any_where test (numbers_from 0 n) || test n)
any_suc test n =
    let e : suc n ≡ n + 1 = omega arith in
    ap (λ (m : ℕ). any_where test (numbers_from 0 m)) e ∙ any_next test n

or_left : (a b : Bool) → a ≡ true → (a || b) ≡ true
or_left true b h = refl
or_left false b h = cc

or_right : (a b : Bool) → b ≡ true → (a || b) ≡ true
or_right true b h = refl
or_right false b h = h

or_cases : (a b : Bool) → (a || b) ≡ true → (a ≡ true) ⊎ (b ≡ true)
or_cases true b h = inl refl
or_cases false b h = inr h

split : (i n : ℕ) → i < suc n → (i < n) ⊎ (i ≡ n)
split i n h = elim (leb_tells (suc i) n) [ inl less ↦ let lt = less.1 in inl (omega arith) | inr more ↦ let ge = more.1 in inr (omega arith) ]

-- a node below a number passes
pub any_here : (test : ℕ → Bool) (n i : ℕ) → i < n → test i ≡ true → any_where test (numbers_from 0 n) ≡ true
any_here test zero i h t = absurd (omega arith)
any_here test (suc n) i h t =
    any_suc test n
    ∙ (elim (split i n h) [
      | inl less ↦ or_left (any_where test (numbers_from 0 n)) (test n) (any_here test n i less t)
      | inr same ↦ or_right (any_where test (numbers_from 0 n)) (test n) (ap test (sym same) ∙ t)
    ])

-- there is one where some node passes
pub any_found : (test : ℕ → Bool) (n : ℕ) → any_where test (numbers_from 0 n) ≡ true → (i : ℕ) × (i < n) × (test i ≡ true)
any_found test zero h = cc
any_found test (suc n) h =
    elim (or_cases (any_where test (numbers_from 0 n)) (test n) (sym (any_suc test n) ∙ h)) [
      | inl before ↦ let (i, less, t) = any_found test n before in (i, omega arith, t)
      | inr here ↦ (n, omega arith, here)
    ]
