-- A `fetch_or` on a word of the rows is a list of licensed events: one Or for each bit of the mask.
use Rattle.std.proofs.Common.{◌≡◌, ◌⊎◌, ℕ, zero, suc, ◌+◌, ◌*◌, ◌/◌, ◌%◌, ◌<◌, ◌≤◌, Bool, true, false, ◌==◌, List, [], ◌∷◌, cond, refl, sym, ap, ap₂, ◌∙◌, subst, inl, inr, arith, true≢false, mod-lt, div-add-mod', eqb-true, eq-eqb}
use Rattle.std.specs.Int.{bit_at}
use Rattle.std.proofs.lemmas.Bool.{cases_eq, cases_Bool, or_cases}
use Rattle.std.proofs.lemmas.Bool.Decides.{nat_tests}
use Rattle.std.proofs.lemmas.Nat.{same_from_place}
use Rattle.sol_model.specs.declared.system.System.{System}
use Rattle.sol_model.specs.Families.{Family, Has, IsInside}
use Rattle.sol_model.specs.Solutions.{IsGiven}
use Rattle.set_rows.specs.declared.rows_core.event.Event.{Event}
use Rattle.set_rows.specs.declared.rows_core.event.Event.TheVariants.{Or}
use Rattle.set_rows.specs.rows_core.Machine.{Machine, with_fact, next, run, AllLicensed}
use Rattle.sol_model.proofs.Closed.{given_more}
use Rattle.sol_model.specs.Words.{At}

abbrev pub In : ℕ × ℕ → List (ℕ × ℕ) → Type 0
In f [] = ⊥
In f (g ∷ gs) = (f ≡ g) ⊎ In f gs

abbrev pub ors : List (ℕ × ℕ) → List Event
ors [] = []
ors (f ∷ fs) = Or f.0 f.1 ∷ ors fs

kept_fact : (F : Family) (r l : ℕ) → IsInside F (with_fact F r l)
kept_fact F r l row location h = rw h refl

new_fact : (F : Family) (r l : ℕ) → Has (with_fact F r l) r l
new_fact F r l = elim (cases_Bool (F r l)) [ inl t ↦ rw t refl | inr f ↦ grind (arith, nat_tests) ]

split_fact : (F : Family) (r l row location : ℕ) → Has (with_fact F r l) row location → Has F row location ⊎ (◌≡◌ {A = ℕ × ℕ} (row, location) (r, l))
split_fact F r l row location h = elim (or_cases (F row location) _ h) [ inl o ↦ inl o | inr t ↦ let a : row ≡ r = grind (arith, nat_tests) in let b : location ≡ l = grind (arith, nat_tests) in inr (λ i. (a i, b i)) ]

-- facts that are licensed at the start are licensed one after the other
pub ors_licensed : (S : System) (m : Machine) (fs : List (ℕ × ℕ)) → ((f : ℕ × ℕ) → In f fs → IsGiven S m.rows f.0 f.1) → AllLicensed S m (ors fs)
ors_licensed S m [] all = tt
ors_licensed S m (f ∷ fs) all = (
  all f (inl refl),
  ors_licensed S (next m (Or f.0 f.1)) fs (λ g i. given_more S m.rows (with_fact m.rows f.0 f.1) (kept_fact m.rows f.0 f.1) g.0 g.1 (all g (inr i))),
)

pub ors_keep : (m : Machine) (fs : List (ℕ × ℕ)) → IsInside m.rows (run m (ors fs)).rows
ors_keep m [] row location h = h
ors_keep m (f ∷ fs) row location h = ors_keep (next m (Or f.0 f.1)) fs row location (kept_fact m.rows f.0 f.1 row location h)

pub ors_add : (m : Machine) (fs : List (ℕ × ℕ)) (row location : ℕ) → In (row, location) fs → Has (run m (ors fs)).rows row location
ors_add m [] row location i = absurd i
ors_add m (f ∷ fs) row location (inl e) = ors_keep (next m (Or f.0 f.1)) fs row location (subst (λ (g : ℕ × ℕ). Has (with_fact m.rows f.0 f.1) g.0 g.1) (sym e) (new_fact m.rows f.0 f.1))
ors_add m (f ∷ fs) row location (inr i) = ors_add (next m (Or f.0 f.1)) fs row location i

pub ors_only : (m : Machine) (fs : List (ℕ × ℕ)) (row location : ℕ) → Has (run m (ors fs)).rows row location → Has m.rows row location ⊎ In (row, location) fs
ors_only m [] row location h = inl h
ors_only m (f ∷ fs) row location h = elim (ors_only (next m (Or f.0 f.1)) fs row location h) [
  | inl old ↦ elim (split_fact m.rows f.0 f.1 row location old) [ inl o ↦ inl o | inr e ↦ inr (inl e) ]
  | inr i ↦ inr (inr i)
]

pub ors_open : (m : Machine) (fs : List (ℕ × ℕ)) → (run m (ors fs)).shut ≡ m.shut
ors_open m [] = refl
ors_open m (f ∷ fs) = ors_open (next m (Or f.0 f.1)) fs

-- the facts of a mask, by its first n bits
abbrev pub facts_of : ℕ → ℕ → ℕ → ℕ → List (ℕ × ℕ)
facts_of width word mask zero = []
facts_of width word mask (suc n) = cond (bit_at mask n == 1) ((word / width, word % width * 64 + n) ∷ facts_of width word mask n) (facts_of width word mask n)

step : (b : Bool) (f g : ℕ × ℕ) (rest : List (ℕ × ℕ)) → In g (cond b (f ∷ rest) rest) → ((b ≡ true) × (g ≡ f)) ⊎ In g rest
step true f g rest (inl e) = inl (refl, e)
step true f g rest (inr i) = inr i
step false f g rest i = inr i

put : (b : Bool) (f g : ℕ × ℕ) (rest : List (ℕ × ℕ)) → b ≡ true → g ≡ f → In g (cond b (f ∷ rest) rest)
put true f g rest t e = inl e
put false f g rest t e = absurd (true≢false (sym t))

keep : (b : Bool) (f g : ℕ × ℕ) (rest : List (ℕ × ℕ)) → In g rest → In g (cond b (f ∷ rest) rest)
keep true f g rest i = inr i
keep false f g rest i = i

at_bit : (W word mask n row location : ℕ) → 0 < W → n < 64 → row ≡ word / W → location ≡ word % W * 64 + n → bit_at mask n ≡ 1 → At W word mask row location
at_bit W word mask n row location wide lt r l bit =
    let x : ℕ = word % W in
    let small : x < W = mod-lt word wide in
    let here : location ≡ x * 64 + n = l in
    let column : location / 64 ≡ x = omega arith in
    let low : location % 64 ≡ n = omega arith in (
      (let p : location < 64 * W = omega arith in p),
      ap₂ (λ (a b : ℕ). a * W + b) r column ∙ div-add-mod' word W,
      ap (bit_at mask) low ∙ bit,
    )

pub in_facts : (W word mask n row location : ℕ) → 0 < W → n ≤ 64 → In (row, location) (facts_of W word mask n) → At W word mask row location
in_facts W word mask zero row location wide le i = absurd i
in_facts W word mask (suc n) row location wide le i = elim (step (bit_at mask n == 1) (word / W, word % W * 64 + n) (row, location) (facts_of W word mask n) i) [
  | inl t ↦ at_bit W word mask n row location wide (omega arith) (ap (λ (p : ℕ × ℕ). p.0) t.1) (ap (λ (p : ℕ × ℕ). p.1) t.1) (eqb-true (bit_at mask n) 1 t.0)
  | inr j ↦ in_facts W word mask n row location wide (omega arith) j
]

pub facts_in : (W word mask n row location : ℕ) → 0 < W → location % 64 < n → At W word mask row location → In (row, location) (facts_of W word mask n)
facts_in W word mask zero row location wide lt at = absurd (omega arith)
facts_in W word mask (suc n) row location wide lt at = elim (cases_eq (location % 64) n) [
  | inl e ↦
      let place = same_from_place row (location / 64) (word / W) (word % W) W (let s = at.0 in omega arith) (mod-lt word wide) (at.1 ∙ sym (div-add-mod' word W)) in
      let l : location ≡ word % W * 64 + n = (let c : location / 64 ≡ word % W = place.1 in let x : ℕ = word % W in let c' : location / 64 ≡ x = c in let g : location ≡ x * 64 + n = omega arith in g) in
      put (bit_at mask n == 1) (word / W, word % W * 64 + n) (row, location) (facts_of W word mask n) (eq-eqb (bit_at mask n) 1 (ap (bit_at mask) (sym e) ∙ at.2)) (λ i. (place.0 i, l i))
  | inr ne ↦ keep (bit_at mask n == 1) (word / W, word % W * 64 + n) (row, location) (facts_of W word mask n) (facts_in W word mask n row location wide (omega arith) at)
]
