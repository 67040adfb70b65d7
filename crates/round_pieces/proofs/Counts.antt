-- How many numbers pass a test.
use Rattle.std.proofs.Common.{◌≡◌, ℕ, zero, suc, ◌+◌, ◌/◌, ◌%◌, ◌^◌, ◌<◌, ◌≤◌, Bool, true, false, cond, not, ◌&&◌, count_ones, true≢false, refl, sym, ap, ◌∙◌, subst, inl, inr, arith, add-zero, add-suc, pow-suc, ◌-◌}
use Rattle.std.specs.Int.{bit_at}
use Rattle.std.proofs.lemmas.Bool.{cases_lt, cases_Bool}
use Rattle.std.proofs.lemmas.Nat.Bits.{bit_at-suc, bit_at_lowest}
use Rattle.std.proofs.lemmas.Nat.{ones_le_self}
use lib.Count.{ones_step}
use Rattle.round_pieces.specs.Work.{count_below}

pub one_or_none : (a b : Bool) → (a ≡ true → b ≡ true) → cond a 1 0 ≤ cond {A = ℕ} b 1 0
one_or_none true true h = omega arith
one_or_none true false h = absurd (true≢false (sym (h refl)))
one_or_none false b h = omega arith

pub count_more : (n : ℕ) (p q : ℕ → Bool) → ((l : ℕ) → l < n → p l ≡ true → q l ≡ true) → count_below n p ≤ count_below n q
count_more zero p q h = omega arith
count_more (suc n) p q h =
    let rest : count_below n p ≤ count_below n q = count_more n p q (λ l lt t. h l (omega arith) t) in
    let last : cond (p n) 1 0 ≤ cond {A = ℕ} (q n) 1 0 = one_or_none (p n) (q n) (λ t. h n (omega arith) t) in
    omega arith

split_one : (p r : Bool) → (p ≡ true → r ≡ true) → cond {A = ℕ} p 1 0 + cond (r && not p) 1 0 ≡ cond r 1 0
split_one true true h = refl
split_one true false h = absurd (true≢false (sym (h refl)))
split_one false true h = refl
split_one false false h = refl

-- those that passed one test, and those that pass another and not that one
pub count_split : (n : ℕ) (p r : ℕ → Bool) → ((l : ℕ) → p l ≡ true → r l ≡ true) → count_below n p + count_below n (λ l. r l && not (p l)) ≡ count_below n r
count_split zero p r h = refl
count_split (suc n) p r h =
    let rest : count_below n p + count_below n (λ l. r l && not (p l)) ≡ count_below n r = count_split n p r h in
    let last : cond {A = ℕ} (p n) 1 0 + cond (r n && not (p n)) 1 0 ≡ cond (r n) 1 0 = split_one (p n) (r n) (h n) in
    omega arith

pub count_add : (m n : ℕ) (p : ℕ → Bool) → count_below (m + n) p ≡ count_below m p + count_below n (λ l. p (m + l))
count_add m zero p = ap (λ (x : ℕ). count_below x p) (add-zero m) ∙ sym (add-zero (count_below m p))
count_add m (suc n) p = rw add-suc (let rest = count_add m n p in omega arith)

count_none : (n : ℕ) (p : ℕ → Bool) → ((l : ℕ) → l < n → p l ≡ false) → count_below n p ≡ 0
count_none zero p h = refl
count_none (suc n) p h =
    let rest : count_below n p ≡ 0 = count_none n p (λ l lt. h l (omega arith)) in
    let last : cond {A = ℕ} (p n) 1 0 ≡ 0 = ap (λ (b : Bool). cond {A = ℕ} b 1 0) (h n (omega arith)) in
    omega arith

-- no number from n on passes
pub count_cut : (m n : ℕ) (q : ℕ → Bool) → ((l : ℕ) → q l ≡ true → l < n) → count_below m q ≤ count_below n q
count_cut m n q h = elim (cases_lt m n) [
  | inl lt ↦ (let d : ℕ = n - m in let e : m + d ≡ n = omega arith in let a = count_add m d q in subst (λ (x : ℕ). count_below m q ≤ count_below x q) e (omega arith))
  | inr ge ↦ (let d : ℕ = m - n in let e : n + d ≡ m = omega arith in let a = count_add n d q in
      let z : count_below d (λ l. q (n + l)) ≡ 0 = count_none d (λ l. q (n + l)) (λ l lt. elim (cases_Bool (q (n + l))) [ inl t ↦ absurd (let b = h (n + l) t in omega arith) | inr f ↦ f ]) in
      subst (λ (x : ℕ). count_below x q ≤ count_below n q) e (omega arith))
]

count_first : (n : ℕ) (p : ℕ → Bool) → count_below (suc n) p ≡ cond (p 0) 1 0 + count_below n (λ l. p (suc l))
count_first zero p = omega arith
count_first (suc n) p = let rest : count_below (suc n) p ≡ cond (p 0) 1 0 + count_below n (λ l. p (suc l)) = count_first n p in
    let whole : count_below (suc (suc n)) p ≡ count_below (suc n) p + cond (p (suc n)) 1 0 = refl in
    let tail : count_below (suc n) (λ l. p (suc l)) ≡ count_below n (λ l. p (suc l)) + cond (p (suc n)) 1 0 = refl in
    whole ∙ ap (λ (x : ℕ). x + cond (p (suc n)) 1 0) rest ∙ (let goal : cond (p 0) 1 0 + count_below n (λ l. p (suc l)) + cond (p (suc n)) 1 0 ≡ cond (p 0) 1 0 + (count_below n (λ l. p (suc l)) + cond (p (suc n)) 1 0) = omega arith in goal)

bit_counted : (x : ℕ) (b : Bool) → x < 2 → (x ≡ 1 → b ≡ true) → x ≤ cond {A = ℕ} b 1 0
bit_counted x true lt h = omega arith
bit_counted x false lt h = elim (cases_lt x 1) [ inl l ↦ omega arith | inr ge ↦ absurd (true≢false (sym (h (omega arith)))) ]

-- the bits of a number
pub ones_counted : (d n : ℕ) (q : ℕ → Bool) → n < 2 ^ d → ((b : ℕ) → b < d → bit_at n b ≡ 1 → q b ≡ true) → count_ones n ≤ count_below d q
ones_counted zero n q small h = let z : n ≡ 0 = omega arith in subst (λ (x : ℕ). count_ones x ≤ 0) (sym z) (let l = ones_le_self 0 in l)
ones_counted (suc d) n q small h =
    let half : n / 2 < 2 ^ d = (let e = pow-suc 2 d in omega arith) in
    let low : n % 2 ≤ cond (q 0) 1 0 = bit_counted (n % 2) (q 0) (omega arith) (λ e. h 0 (omega arith) (bit_at_lowest n ∙ e)) in
    let rest : count_ones (n / 2) ≤ count_below d (λ b. q (suc b)) = ones_counted d (n / 2) (λ b. q (suc b)) half (λ b lt e. h (suc b) (omega arith) (bit_at-suc n b ∙ e)) in
    let step : count_ones n ≡ n % 2 + count_ones (n / 2) = ones_step n in
    let first = count_first d q in
    omega arith
