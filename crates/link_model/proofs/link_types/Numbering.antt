-- The numbers of classes, thing by thing.
use Rattle.std.proofs.Common.{◌≡◌, ◌≢◌, ℕ, zero, suc, ◌+◌, ◌-◌, ◌<◌, ◌≤◌, false, cond, eqb, List, [], ◌∷◌, ◌++◌, length, get_or, below_more, refl, sym, ap, subst, ◌∙◌, arith, inl, inr}
use Rattle.std.proofs.Math.Seq.{get_or-append_seam}
use Rattle.std.proofs.Math.ListN.{get_or-append}
use Rattle.std.proofs.lemmas.Option.{get_or_from_slice_get, slice_get_read}
use Rattle.std.proofs.lemmas.Bool.{cases_lt, eq-eqb}
use Rattle.std.proofs.lemmas.Bool.Decides.{eqb_tells}
use Rattle.link_model.specs.link_types.Leaders.{AreLeaders, leaders_below, AreNumbers}

pub each_more : (xs : List ℕ) (x i : ℕ) (f : ℕ → ℕ) → length xs ≡ i → ((k : ℕ) → k < i → get_or xs k 0 ≡ f k) → x ≡ f i → (k : ℕ) → k < i + 1 → get_or (xs ++ x ∷ []) k 0 ≡ f k
each_more xs x i f e h g =
    below_more (λ k. get_or (xs ++ x ∷ []) k 0 ≡ f k) i
    (λ k l. get_or-append xs (x ∷ []) 0 k (omega arith) ∙ h k l)
    (subst (λ n. get_or (xs ++ x ∷ []) n 0 ≡ f i) e (get_or-append_seam xs x [] 0 ∙ g))

next : (i : ℕ) → i + 1 ≡ suc i
next i = omega arith

-- what was read from a list, whatever stands past its end
pub read_as : (xs : List ℕ) (k x : ℕ) → k < length xs → x ≡ get_or xs k x → x ≡ get_or xs k 0
read_as xs k x lt e = sym (get_or_from_slice_get xs k x 0 (slice_get_read xs (length xs) k x refl lt e))

eqb_other : (a b : ℕ) → a ≢ b → eqb a b ≡ false
eqb_other a b ne = elim (eqb_tells a b) [ inl same ↦ absurd (ne same.1) | inr other ↦ other.0 ]

pub below_new : (leaders : List ℕ) (i : ℕ) → get_or leaders i 0 ≡ i → leaders_below leaders (i + 1) ≡ leaders_below leaders i + 1
below_new leaders i h =
    ap (leaders_below leaders) (next i) ∙ ap (λ b. leaders_below leaders i + cond b 1 0) (eq-eqb (get_or leaders i 0) i h)

pub below_old : (leaders : List ℕ) (i : ℕ) → get_or leaders i 0 ≢ i → leaders_below leaders (i + 1) ≡ leaders_below leaders i
below_old leaders i h =
    ap (leaders_below leaders) (next i) ∙ (ap (λ b. leaders_below leaders i + cond b 1 0) (eqb_other (get_or leaders i 0) i h) ∙ last (leaders_below leaders i))
  where
    last : (n : ℕ) → n + 0 ≡ n
    last n = omega arith

-- the number of a thing that another one leads
pub led_number : (leaders : List ℕ) (xs : List ℕ) (i : ℕ) → AreLeaders leaders → i < length leaders → get_or leaders i 0 ≢ i → ((k : ℕ) → k < i → get_or xs k 0 ≡ leaders_below leaders (get_or leaders k 0))
    → get_or xs (get_or leaders i 0) 0 ≡ leaders_below leaders (get_or leaders i 0)
led_number leaders xs i are l other h =
    let below = are.below i l in
    h (get_or leaders i 0) (omega arith) ∙ ap (leaders_below leaders) (are.itself i l)

-- more leaders below a later thing
grows : (leaders : List ℕ) (a n : ℕ) → leaders_below leaders a ≤ leaders_below leaders (a + n)
grows leaders a zero = subst (λ m. leaders_below leaders a ≤ leaders_below leaders m) (let none : a ≡ a + zero = omega arith in none) (let x = leaders_below leaders a in omega arith)
grows leaders a (suc n) =
    let before = grows leaders a n in
    let step : a + suc n ≡ suc (a + n) = omega arith in
    subst (λ m. leaders_below leaders a ≤ leaders_below leaders m) (sym step) (omega arith)

-- and one more, where the earlier is a leader
pub leads_below : (leaders : List ℕ) (a b : ℕ) → get_or leaders a 0 ≡ a → a < b → leaders_below leaders a < leaders_below leaders b
leads_below leaders a b lead lt =
    let new = below_new leaders a lead in
    let n = b - (a + 1) in
    let whole : (a + 1) + n ≡ b = omega arith in
    let later = grows leaders (a + 1) n in
    let at : leaders_below leaders ((a + 1) + n) ≡ leaders_below leaders b = ap (leaders_below leaders) whole in
    omega arith

-- things have one number exactly where they have one leader
pub one_leader : (leaders numbers : List ℕ) (count : ℕ) → AreLeaders leaders → AreNumbers leaders numbers count → (g h : ℕ) → g < length leaders → h < length leaders → get_or numbers g 0 ≡ get_or numbers h 0 → get_or leaders g 0 ≡ get_or leaders h 0
one_leader leaders numbers count are n g h lg lh e =
    let a = get_or leaders g 0 in
    let b = get_or leaders h 0 in
    let same : leaders_below leaders a ≡ leaders_below leaders b = sym (n.each g lg) ∙ (e ∙ n.each h lh) in
    elim (cases_lt a b) [
      | inl lt ↦ absurd (let less = leads_below leaders a b (are.itself g lg) lt in omega arith)
      | inr ge ↦ elim (cases_lt b a) [
        | inl lt ↦ absurd (let less = leads_below leaders b a (are.itself h lh) lt in omega arith)
        | inr other ↦ omega arith
      ]
    ]

-- each number is below their count
pub number_below : (leaders numbers : List ℕ) (count : ℕ) → AreLeaders leaders → AreNumbers leaders numbers count → (g : ℕ) → g < length leaders → get_or numbers g 0 < count
number_below leaders numbers count are n g lg =
    let below = are.below g lg in
    let less = leads_below leaders (get_or leaders g 0) (length leaders) (are.itself g lg) (omega arith) in
    let at = n.each g lg in
    let all = n.count_is in
    omega arith
